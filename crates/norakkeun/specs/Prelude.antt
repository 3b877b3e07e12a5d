-- The names from outside that this crate's definitions and proofs use, passed on by one module.
pub use Rattle.std.specs.Prelude.{ℕ, ◌≡◌}
pub use Rattle.std.proofs.Common.{◌∙◌, rules}
pub use Rattle.event.specs.declared.events.Event.{Event}
pub use Rattle.arbiter.specs.Answers.{said_of}
pub use Rattle.arbiter.specs.Promises.{Answered}
pub use Rattle.arbiter.specs.declared.table.Next.{Next}
pub use Rattle.arbiter.specs.declared.table.Table.{Table}
pub use Rattle.numbers.specs.Numbers.{event_in_numbers, event_told}
pub use Rattle.numbers.specs.declared.Told.{Told}
