-- What the theorems say: the words of whole histories, demand 3, what later requests cannot change, and the sessions of
-- document 01.
pub mod Demand
pub mod History
pub mod Prelude
pub mod Sessions
pub mod UpTo
