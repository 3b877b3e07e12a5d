-- When a call is refused, and the parts in which that is tested.
pub mod Grounds
pub mod Refusals
