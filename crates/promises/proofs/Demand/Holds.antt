-- Demand 3 holds of every history.
use Rattle.std.specs.Prelude.{◌&&◌, ◌+◌, ◌-◌, ◌≡◌, ◌≤◌}
use Rattle.promises.specs.Prelude.{Ask, Bool, GiveUp, List, Open, Report, Table, Tick, ◌∙◌, acceptance_tells, ahead, ap, arith, bit, cond, count, earlier, earlier_turn, eqb, false, fine, idle, in_way, jobs, leb, length-replicate, live, ltb, meets, ne_eqb, not, refl, report, report_cases, reported, row_in, run, says_done, says_token, says_wait, start_answer, start_table, subst, sym, token, true, without, ℕ}
use Rattle.event.specs.declared.events.Event.{Event}
use Rattle.promises.specs.Demand.Statement.{Demand3, HasParted, Supposed, after_opening, before, n, now}
use Rattle.promises.proofs.Demand.GivenUp.{gone_for_good}
use Rattle.promises.proofs.Demand.Others.{run_heeded, tally_heeded, unmoved, way_bounded}
use Rattle.promises.proofs.Demand.Sets.{ask_granted, ask_has_token, ask_says_lem}
use Rattle.promises.proofs.Demand.Opened.{ahead_opened}
use Rattle.promises.proofs.Demand.Token.{all_before, along_opened, below_at_most, declared_opened, token_by_all, token_by_earlier, token_told}
use Rattle.promises.proofs.History.Events.{accepts}
use Rattle.promises.specs.History.Words.{Along, Bears, completing_by, completions, given_up, in_its_way, ours, parting_by, partings, parts_by_other, parts_by_own}
use Rattle.promises.proofs.History.Count.{along_run}
use Rattle.promises.proofs.History.Partings.{parted_run, parted_then, stays_parted}
use Rattle.promises.proofs.History.Turn.{declared_run}
use Rattle.kept.specs.Soundness.{start_fresh, start_ranges}
use Rattle.kept.specs.Words.{Accepts}
use Rattle.kept.specs.Accepted.{answer_accepted, next_accepted}
use Rattle.kept.specs.Sound.Tests.{ranges_in}

-- ---- The start

module _ (T R limit : ℕ) (started : start_answer T R limit ≡ fine says_done) where
  some_token : 1 ≤ T
  some_token = (ranges_in T R limit (start_ranges T R limit started)).tokens.0

  along_start : (begin : ℕ) → Along T 0 (start_table T R begin limit)
  along_start begin =
      subst (Along T 0) (sym (start_fresh T R limit started begin))
      (record { wide = length-replicate jobs idle; tokens = refl; given = omega arith })

-- ---- Who has parted

-- another job's request that is out of the way counts for nothing, whatever either does
has_parted : (t : Table) (j k : ℕ) → eqb k j ≡ false → in_its_way t j (row_in t k) ≡ false → HasParted j k t
has_parted t j k other out =
    record {
      out = out;
      completes = λ at. ap bit out;
      gives_up = λ at x.
          ap (λ (b : Bool). cond b (count (parts_by_own t j x) t.rows) (bit (parts_by_other t j x (row_in t k)))) other
          ∙ ap (λ (b : Bool). bit (b && not (meets (without (row_in t k).declared x) (row_in t j).declared))) out;
      own = λ x. ap (λ (b : Bool). b && not (meets (row_in t k).declared (without (row_in t j).declared x))) out;
    }

-- ---- The theorem

module _ (T R begin limit : ℕ) (past : List Event) (j : ℕ) (tick : Tick) (s : ℕ) (later : List Event)
    (given : Supposed ours T R begin limit past j tick s later) where
  abbrev first_table : Table
  first_table = before ours T R begin limit past j tick s later

  abbrev opened_table : Table
  opened_table = after_opening ours T R begin limit past j tick s later

  abbrev table : Table
  table = now ours T R begin limit past j tick s later

  abbrev turn : ℕ
  turn = n ours T R begin limit past j tick s later

  -- the opening is refused by no case
  open_ok : Accepts jobs first_table (Open j tick s)
  open_ok = accepts first_table (Open j tick s) given.accepted

  some : 1 ≤ T
  some = some_token T R limit given.started

  along_past : Along T 0 first_table
  along_past = along_run (along_start T R limit given.started begin) past

  along : Along T turn opened_table
  along = along_opened first_table along_past j tick s open_ok

  behind : ahead opened_table.rows turn ≡ count live first_table.rows
  behind = ahead_opened first_table along_past j tick s open_ok

  -- the request's row is its own, in a table of this history
  pub bears : Bears T turn j table
  bears = record { along = along_run along later; some = omega arith; turn = given.lives }

  -- the request declares what it was opened with, without what it has given up
  still_declares : (row_in table j).declared ≡ without s (given_up j opened_table later)
  still_declares =
      declared_run opened_table along bears.some j later given.lives
      ∙ ap (λ (d : ℕ). without d (given_up j opened_table later)) (declared_opened first_table along_past j tick s open_ok)

  way_reported :
      (since : List Event) (r : Report) → report (run table since) j ≡ fine r → r.turn.0 ≡ turn →
      r.in_way + partings j table since ≡ in_way table.rows turn (row_in table j).declared
  unfolding report
  way_reported since r q same =
      let end = run table since in
      let is : reported end (row_in end j) ≡ r = (acceptance_tells {B = ℕ} (report_cases end j) (reported end (row_in end j)) r q).1 in
      let still : (row_in end j).turn.0 ≡ turn = ap (λ (r : Report). r.turn.0) is ∙ same in
      let number : r.in_way ≡ in_way end.rows turn (row_in end j).declared =
      ap (λ (r : Report). r.in_way) (sym is) ∙ ap (λ (m : ℕ). in_way end.rows m (row_in end j).declared) still in
      omega (arith, parted_run table bears.along bears.some j since still)

  parted_once :
      (k : ℕ) (since : List Event) → earlier turn (row_in table k) ≡ true → in_its_way table j (row_in table k) ≡ false →
      (row_in (run table since) k).turn.0 ≡ (row_in table k).turn.0 → (row_in (run table since) j).turn.0 ≡ turn →
      HasParted j k (run table since)
  parted_once k since before parted same still =
      let end = run table since in
      let lower = (earlier_turn turn (row_in table k) before).1 in
      has_parted end j k
      (ne_eqb k j (λ q. omega (arith, ap (λ (i : ℕ). (row_in end i).turn.0) q)))
      (stays_parted table bears.along bears.some j k since still before same parted)

  token_comes : token T table.rows turn ≡ leb (count live first_table.rows - (T - 1)) (completions live opened_table later)
  token_comes =
      token_by_all some opened_table along later
      ∙ ap (λ (p : ℕ). leb (p - (T - 1)) (completions live opened_table later)) behind

  token_reported :
      (r : Report) → report table j ≡ fine r →
      r.token ≡ leb (count live first_table.rows - (T - 1)) (completions live opened_table later)
  unfolding report
  token_reported r q =
      let is : reported table (row_in table j) ≡ r =
      (acceptance_tells {B = ℕ} (report_cases table j) (reported table (row_in table j)) r q).1 in
      ap (λ (r : Report). r.token) (sym is)
      ∙ (λ i. token (bears.along.tokens i) table.rows (bears.turn i))
      ∙ token_comes

  pub demand3 : Demand3 ours T R begin limit past j tick s later
  demand3 =
      record {
        opening_says =
            answer_accepted jobs first_table (Open j tick s) open_ok
            ∙ ap (λ (b : Bool). fine (cond b says_token says_wait))
            ((λ i. ltb (all_before first_table along_past j tick s open_ok i) (along_past.tokens i))
            ∙ below_at_most (count live first_table.rows) T some);
        token_comes = token_comes;
        token_reported = token_reported;
        token_listed = λ e lacks. token_told bears lacks e;
        ask_has_token = λ at x h. ask_has_token bears at x (accepts table (Ask j at x) h);
        ask_says_lem = λ at x h. ask_says_lem bears at x (accepts table (Ask j at x) h);
        ask_granted = λ at x h. ask_granted bears at x (accepts table (Ask j at x) h);
        still_declares = still_declares;
        way_bounded = way_bounded T table.rows turn (row_in table j).declared;
        way_reported = way_reported;
        parted_then = λ k e took parts.
            let ok = accepts table e took in
            rw (next_accepted jobs table e ok) (parted_then table bears.along bears.some j k parts ok);
        parted_once = parted_once;
        given_up_for_good = λ at x h since still. gone_for_good bears at x (accepts table (GiveUp j at x) h) since still;
        token_by_earlier =
            token_by_earlier some opened_table along later
            ∙ ap (λ (p : ℕ). leb (p - (T - 1)) (completions (earlier turn) opened_table later)) behind;
        later_unseen = unmoved table bears.along;
        refused_before = run_heeded (start_table T R begin limit) past;
        refused_since = run_heeded opened_table later;
        refused_uncounted = λ f. tally_heeded (completing_by f) opened_table later;
        refused_unparted = tally_heeded (λ t. parting_by t j) table;
      }
