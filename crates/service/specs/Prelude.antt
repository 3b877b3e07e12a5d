-- The names from outside that this crate's definitions and proofs use, passed on by one module.
pub use Rattle.std.specs.Prelude.{◌*◌, ◌+◌, ◌-◌, ◌<◌, ◌^◌, ◌≤◌, suc, zero, ℕ, Bool, ◌&&◌, ◌||◌, false, not, true, List, [], ◌++◌, ◌∷◌, map, ◌↔◌, ◌≢◌, ◌≡◌, refl, eqb, ltb, drop, length, replicate, set}
pub use Rattle.std.proofs.Math.Bool.{and-false, and-true}
pub use Rattle.std.proofs.Common.{append-nil, ◌∙◌, ap, subst, sym, arith, rules, eq-eqb, eqb-true, le-ltb, lt-ltb, ltb-false, ltb-true, ne_eqb, drop_of_length-le, length-append, length-drop, length-set, take-append-drop, pow_mono, drop_at, drop-drop, ext_get_or, get_or-set_other, get_or-set_same, set-set}
pub use Rattle.std.proofs.Math.Decide.{dec_lt, ℕ_discrete}
pub use Rattle.std.proofs.lemmas.Bool.{not-false, not-true}
pub use Rattle.std.proofs.Math.Arith.{le-zero}
pub use Rattle.std.proofs.lemmas.List.{length-map, length-replicate, set-get_or}
pub use Rattle.std.proofs.Math.Seq.{append_snoc}
pub use Rattle.laws.specs.BoolLaws.{and_left, and_right, or_clear}
pub use Rattle.laws.specs.Bools.{bit}
pub use Rattle.laws.specs.CaseLaws.{acceptance_tells, clear, outcome_is}
pub use Rattle.laws.specs.Cases.{fine, refused}
unfoldable pub use Rattle.laws.specs.Cases.{case, first, outcome}
pub use Rattle.laws.specs.Chains.{past, this}
unfoldable pub use Rattle.laws.specs.Front.{over}
pub use Rattle.laws.specs.ListLaws.{none_above}
unfoldable pub use Rattle.laws.specs.Lists.{all, any, count}
pub use Rattle.laws.specs.SetLaws.{below_reads, inside_reads, inside_refl}
unfoldable pub use Rattle.laws.specs.Sets.{below, inside, meet, meets}
pub use Rattle.fields.specs.DigitLaws.{below_drop}
unfoldable pub use Rattle.fields.specs.Digits.{digits, value}
pub use Rattle.fields.specs.Fields.{Fit}
unfoldable pub use Rattle.fields.specs.Fields.{bits, split}
pub use Rattle.fields.specs.Packing.{Bytes}
unfoldable pub use Rattle.fields.specs.Packing.{pack, row, unpack}
pub use Rattle.fields.specs.PackingLaws.{fit_unpack, front_packed, front_unpacked, length_pack, length_unpack, unpack_each}
pub use Rattle.event.specs.Limits.{jobs, most}
pub use Rattle.event.specs.Refusals.{number_of}
pub use Rattle.event.specs.declared.refusal.Refusal.TheVariants.{BitSet, UnknownVersion, UnsoundTable, WrongSize}
pub use Rattle.rows.specs.InLine.{length_lined_le, line_below}
pub use Rattle.rows.specs.Line.{line, row_of}
unfoldable pub use Rattle.rows.specs.Line.{lined, place, under}
pub use Rattle.rows.specs.LineLaws.{each_cons, each_head, each_none, each_tail}
pub use Rattle.rows.specs.Order.{earlier, idle, live}
unfoldable pub use Rattle.rows.specs.Order.{ahead, distinct, in_way}
pub use Rattle.rows.specs.OrderLaws.{ahead_set}
pub use Rattle.rows.specs.Propositions.{Distinct, Each}
pub use Rattle.rows.specs.Turns.{at_set, distinct_set, turn_earlier}
pub use Rattle.rows.specs.declared.row.Row.{Row}
pub use Rattle.arbiter.specs.Sound.{row_in}
unfoldable pub use Rattle.arbiter.specs.Sound.{sound}
pub use Rattle.arbiter.specs.declared.table.Table.{Table}
pub use Rattle.kept.specs.Sound.Tests.{table_sound}
pub use Rattle.kept.specs.Soundness.{idle_rows}
pub use Rattle.upkeep.specs.UpkeepLaws.{line_joined, line_place}
unfoldable pub use Rattle.sweep.specs.Walking.{Rising}
pub use Rattle.sweep.specs.WalkingLaws.{walk_start}
