-- What is said of questions along the line.
pub mod InCode
pub mod Late
pub mod Prelude
pub mod QuestionLaws
