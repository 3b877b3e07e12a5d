-- Laws that the proofs of the two questions need.
mod Surveys
