-- Sound tables as propositions, and what holds of each.
pub mod Facts
pub mod Tests
pub mod Tokens
pub mod Words
