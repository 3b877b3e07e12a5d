-- Files there and back: writing a table and reading it again.
pub mod RoundTrip
