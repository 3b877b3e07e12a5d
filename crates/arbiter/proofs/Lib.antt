-- Laws that the proofs of single functions need, and what the calls determine.
pub mod Answering
pub mod Carrying
pub mod Determined
pub mod Surveys
