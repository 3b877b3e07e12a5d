-- What is decided of one request.
pub mod Change
pub mod Going
