-- Demand 3 of document 00: its proof, and two histories in figures.
pub mod Example
pub mod GivenUp
pub mod Holds
pub mod Opened
pub mod Others
pub mod Partings
pub mod Sets
pub mod Token
