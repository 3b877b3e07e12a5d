-- The theorems: what whole histories show, what later requests cannot change, and the sessions of document 01.
pub mod Demand
pub mod History
pub mod Sessions
pub mod UpTo
