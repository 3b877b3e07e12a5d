-- The names from outside that this crate's definitions and proofs use, passed on by one module.
pub use Rattle.std.specs.Prelude.{◌*◌, ◌+◌, ◌-◌, ◌<◌, ◌≤◌, suc, zero, ℕ, Bool, cond, false, true, List, [], ◌++◌, ◌∷◌, ◌≡◌, refl, drop, get_or, length, take}
pub use Rattle.std.proofs.Common.{append_assoc, append-nil, ◌∙◌, ap, subst, sym, add-one, arith, take_all, take-suc}
pub use Rattle.std.proofs.Math.Seq.{take-append_seam}
pub use Rattle.laws.specs.Cases.{fine, keep_unless, unless}
unfoldable pub use Rattle.laws.specs.Cases.{first, leaves, outcome}
pub use Rattle.laws.specs.Front.{Wrote}
unfoldable pub use Rattle.laws.specs.Front.{over}
pub use Rattle.laws.specs.FrontLaws.{take_min, then, wrote_length, wrote_none}
pub use Rattle.decimal.specs.Text.{ascii, text}
pub use Rattle.decimal.specs.TextLaws.{length_text, length_text_u64}
pub use Rattle.event.specs.declared.events.Event.{Event}
pub use Rattle.event.specs.declared.events.Event.TheVariants.{Ask, Beat, Complete, GiveUp, Open, Release}
pub use Rattle.rows.specs.Order.{blocked, token}
pub use Rattle.arbiter.specs.Answers.{Said, says_granted, says_token, says_wait}
unfoldable pub use Rattle.arbiter.specs.Meaning.{answer, listed}
pub use Rattle.arbiter.specs.Meaning.{said, wakes}
pub use Rattle.arbiter.specs.Refusals.{cases}
pub use Rattle.arbiter.specs.Sound.{row_in}
pub use Rattle.arbiter.specs.declared.table.Table.{Table}
