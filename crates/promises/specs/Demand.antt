-- Demand 3 of document 00: its statement.
pub mod Statement
