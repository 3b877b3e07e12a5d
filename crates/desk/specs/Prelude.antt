-- The names from outside that this crate's definitions and proofs use, passed on by one module.
pub use Rattle.std.specs.Prelude.{◌≤◌, ℕ, not, List, ◌≡◌, refl, length, Result, Ok, Err}
pub use Rattle.std.proofs.Common.{◌∙◌, ap, sym, zero-add, le-ltb, lt-ltb}
pub use Rattle.laws.specs.CaseLaws.{acceptance_tells, leaves_is, outcome_is, refusal_tells}
pub use Rattle.laws.specs.Cases.{fine, keep_unless, refused, unless}
pub use Rattle.laws.specs.Chains.{First, none, past, this}
pub use Rattle.laws.specs.Determined.{determined}
pub use Rattle.laws.specs.Front.{Wrote, over}
pub use Rattle.laws.specs.FrontLaws.{laid_front}
pub use Rattle.event.specs.Refusals.{number_of, outcome_of}
pub use Rattle.event.specs.declared.refusal.Refusal.{Refusal}
pub use Rattle.event.proofs.AnswerLaws.{outcome_determined}
pub use Rattle.arbiter.specs.Answers.{Said, said_of, says_done}
pub use Rattle.arbiter.specs.Meaning.{no_table}
pub use Rattle.arbiter.specs.declared.table.Next.{Next}
pub use Rattle.arbiter.specs.declared.table.Table.{Table}
pub use Rattle.service.specs.File.{read_cases, table_in}
unfoldable pub use Rattle.service.specs.File.{table_read}
pub use Rattle.service.proofs.RoundTrip.{read_sound}
unfoldable pub use Rattle.loading.specs.Meaning.{load_answer, load_table}
pub use Rattle.loading.specs.Promises.{Loaded}
unfoldable pub use Rattle.page.specs.Meaning.{page_answer, room_after as room_with_page}
pub use Rattle.page.specs.Page.{page, page_room}
pub use Rattle.page.specs.Promises.{PutPage}
