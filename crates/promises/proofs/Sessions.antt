-- The sessions turn out as the documents say.
use Rattle.promises.specs.Prelude.{ahead, all, answer, below, count, course, distinct, first, forward, under, in_way, inside, keep, late_in, leaves, lined, meet, meets, next, outcome, overdue, place, refl, report, settled, sound, start_table, union, without, woken}
use Rattle.promises.specs.Sessions.{Claim, Session}
use Rattle.promises.specs.Sessions.Session.{P1, P2, P3, P4, P5, P6, P7, P8, P9, P10, P11, P12, leap, last_leap}
use Rattle.record.specs.Worked as Record

-- every session turns out as the documents say
pub worked : (session : Session) → Claim session
unfolding start_table course next answer report overdue late_in forward outcome leaves first sound distinct ahead in_way count all meets meet union without inside below settled woken keep lined place under
worked P1 = Record.recorded
worked P2 = refl
worked P3 = refl
worked P4 = refl
worked P5 = refl
worked P6 = (refl, refl)
worked P7 = (refl, refl)
worked P8 = refl
worked P9 = refl
worked P10 = refl
worked P11 = refl
worked P12 = refl
worked leap = refl
worked last_leap = (refl, refl)
