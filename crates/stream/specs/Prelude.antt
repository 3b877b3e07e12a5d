-- The names from outside that this crate's proofs use, passed on by one module.
pub use Rattle.std.specs.Prelude.{◌-◌, ◌≤◌, ℕ, List, ◌≡◌, refl, drop, length, take}
pub use Rattle.std.proofs.Common.{zero-add, arith, take_at}
pub use Rattle.laws.specs.Front.{Wrote}
unfoldable pub use Rattle.laws.specs.Front.{over}
pub use Rattle.laws.specs.FrontLaws.{laid_front}
pub use Rattle.decimal.specs.TextLaws.{length_text_u64}
