-- What a request gives up is gone as long as it lives: nothing of it is declared or held again, or granted.
use Rattle.std.specs.Prelude.{◌≡◌}
use Rattle.promises.specs.Prelude.{Ask, Bool, GiveUp, List, Row, Table, Tick, ◌∙◌, ap, arith, case, cases, false, inside_reads, jobs, meets, meets_inside, meets_reads, member, next, not, refl, row_in, run, sym, true, without, without_inside, without_lost, ℕ}
use Rattle.event.specs.declared.events.Event.{Event}
use Rattle.promises.specs.Demand.Statement.{GoneForGood}
use Rattle.promises.specs.History.Words.{Bears, given_up, ours, taken}
use Rattle.promises.proofs.History.Events.{accepts}
use Rattle.promises.proofs.History.Count.{along_next}
use Rattle.promises.proofs.History.Turn.{declared_run}
use Rattle.kept.specs.Accepted.{next_accepted, passed}
use Rattle.kept.specs.GivenUp.{give_up_leaves}
use Rattle.kept.specs.Sound.Tests.{table_sound}
use Rattle.kept.specs.Sound.Words.{LiveRow}
use Rattle.kept.specs.Soundness.{accepted_sound, events_sound}
use Rattle.kept.specs.Words.{Accepts}

-- ---- A row that declares nothing of a set

module _ (t : Table) (j x : ℕ) (none : meets (row_in t j).declared x ≡ false) (at : Tick) (y : ℕ) (some : meets y x ≡ true) where
  -- an ask for some of it is for something undeclared
  undeclared : case 13 (cases jobs t (Ask j at y)) ≡ true
  unfolding case
  undeclared =
      let shared = (meets_reads y x).holds.0 some in
      let d = (row_in t j).declared in
      ap not ((inside_reads y d).fails.1 (shared.0, shared.1, absent shared.0 shared.2 (member d shared.0) refl))
    where
      absent : (a : ℕ) → member x a ≡ true → (b : Bool) → member (row_in t j).declared a ≡ b → b ≡ false
      absent a wanted true own = sym wanted ∙ (meets_reads (row_in t j).declared x).fails.0 none a own
      absent a wanted false own = refl

  so_refused : taken t (Ask j at y) ≡ false
  so_refused = go (taken t (Ask j at y)) refl
    where
      go : (b : Bool) → taken t (Ask j at y) ≡ b → b ≡ false
      go true took = sym undeclared ∙ passed jobs t (Ask j at y) (accepts t (Ask j at y) took) 13
      go false took = refl

-- ---- After a give up

module _ {T n j : ℕ} {t : Table} (b : Bears T n j t) (at : Tick) (x : ℕ) (ok : Accepts jobs t (GiveUp j at x)) (since : List Event)
    (still : (row_in (run (next jobs t (GiveUp j at x)) since) j).turn.0 ≡ n) where
  abbrev after : Table
  after = next jobs t (GiveUp j at x)

  abbrev end : Table
  end = run after since

  declares_none : meets (row_in end j).declared x ≡ false
  declares_none =
      let left : (row_in after j).declared ≡ without (row_in t j).declared x = ap (λ (r : Row). r.declared) (give_up_leaves jobs t j at x ok).0 in
      rw (declared_run after (along_next b.along (GiveUp j at x)) b.some j since still, left)
      (meets_inside (without (without (row_in t j).declared x) (given_up j after since)) (without (row_in t j).declared x) x
      (without_inside (without (row_in t j).declared x) (given_up j after since)) (without_lost (row_in t j).declared x))

  holds_declared : LiveRow end (row_in end j)
  holds_declared =
      ((table_sound end (events_sound after since (rw (next_accepted jobs t (GiveUp j at x) ok) (accepted_sound jobs t (GiveUp j at x) ok)))
      ).rows j).lives (omega (arith, b.some, still))

  pub gone_for_good : GoneForGood ours j x end
  gone_for_good =
      record {
        declared = declares_none;
        held = meets_inside (row_in end j).held (row_in end j).declared x holds_declared.held_declared_lem declares_none;
        not_declared = undeclared end j x declares_none;
        refused = so_refused end j x declares_none;
      }
