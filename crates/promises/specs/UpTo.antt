-- What it is that depends on the rows up to a turn alone.
pub mod Statement
