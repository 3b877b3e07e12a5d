-- What answers are in numbers.
pub mod Numbers
