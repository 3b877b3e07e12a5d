-- With and without a latecomer: in the history of Demand/Example job 7 opens, or only the clock moves. What jobs 1 to 6 live
-- through is the same from then on.
use Rattle.std.specs.Prelude.{◌∷◌, ◌≡◌}
use Rattle.promises.specs.Prelude.{Ask, Beat, GiveUp, List, Table, [], ahead, all, answer, arith, below, count, course, distinct, first, in_way, inside, jobs, keep, leaves, lined, meet, meets, next, outcome, place, refl, run, settled, sound, start_table, true, under, union, without, woken, ℕ}
use Rattle.event.specs.declared.events.Event.{Event}
use Rattle.promises.specs.Demand.Statement.{after_opening}
use Rattle.promises.proofs.Demand.Example.{all_open, at, this}
use Rattle.promises.specs.History.Words.{Along, lists}
use Rattle.promises.specs.UpTo.Statement.{Agree, SameUpTo}
use Rattle.promises.proofs.UpTo.Holds.{up_to_decides}

-- the table where 7 has not opened
abbrev unopened : Table
unopened = next jobs (this after_opening) (Beat (at 4294967290))

agree : Agree 6 all_open unopened
unfolding start_table course next leaves first sound all distinct count ahead in_way below inside meet meets
agree = record { tokens = refl; resources = refl; limit = refl; time = refl; rows = refl }

along : Along 4 6 all_open
along = record { wide = refl; tokens = refl; given = omega arith }

along_unopened : Along 4 6 unopened
unfolding start_table course next leaves first sound all distinct count ahead in_way below inside meet meets
along_unopened =
    let last : unopened.last.0 ≡ 6 = refl in
    record { wide = refl; tokens = refl; given = omega (arith, last) }

both_sound : (sound all_open ≡ true) × (sound unopened ≡ true)
unfolding start_table course next leaves first sound all distinct count ahead in_way below inside meet meets
both_sound = (refl, refl)

pub latecomer_unseen : (e : Event) → SameUpTo 6 all_open unopened e
latecomer_unseen = up_to_decides along along_unopened both_sound.0 both_sound.1 agree

-- ---- A give up, in figures

-- 3 asks for {1}, which 1 and 2 declare; 1 gives up {0, 1}, then 2 gives up {1}
abbrev listed_then : Table → List ℕ
listed_then t = lists (run t (Ask 3 (at 4294967291) 2 ∷ GiveUp 1 (at 4294967292) 3 ∷ [])) (GiveUp 2 (at 4294967293) 2)

-- with the last that they share 3 is woken, whether 7 has opened or not
pub woken_alike : (listed_then all_open ≡ 3 ∷ []) × (listed_then unopened ≡ 3 ∷ [])
unfolding start_table course next answer outcome leaves first sound all distinct count ahead in_way below inside meet meets settled union without woken keep lined under place
woken_alike = (refl, refl)
