-- The names from outside that this crate's definitions and proofs use, passed on by one module.
pub use Rattle.std.specs.Prelude.{ℕ, true, ◌≡◌, Result}
pub use Rattle.std.proofs.Common.{◌∙◌, ap, sym}
pub use Rattle.std.proofs.lemmas.Bool.{not-false}
pub use Rattle.laws.specs.CaseLaws.{acceptance_tells, clear, refusal_tells}
pub use Rattle.laws.specs.Cases.{Outcome, fine, outcome}
unfoldable pub use Rattle.laws.specs.Cases.{case}
pub use Rattle.event.specs.Refusals.{outcome_of}
pub use Rattle.event.specs.Events.{about, job_of, refusals_of, set_of, tick_of}
pub use Rattle.event.proofs.RefusalLaws.{cases_positive}
pub use Rattle.event.specs.declared.events.Event.{Event}
pub use Rattle.event.specs.declared.refusal.Refusal.{Refusal}
pub use Rattle.request.specs.declared.seen.Seen.{Seen}
pub use Rattle.grounds.specs.Refusals.{applies_to, calling, time_from}
