use Rattle.std.proofs.Common.{ℕ, zero, suc, ◌+◌, ◌*◌, ◌<◌, ◌≤◌, List, [], ◌∷◌, ◌++◌, set, replicate, Some, None, Option, refl, arith}
use Rattle.std.proofs.lemmas.Bool.{lt-leb}
use Rattle.tasks.specs.Orders.{Lists}
use Rattle.tasks.specs.Sets.{members_from}
use Rattle.demand.specs.Demand.{ceil_div, releases}
use Rattle.demand.specs.Present.{some_up_to}
use Rattle.demand.proofs.Rounding.{ceil_pos}
use Rattle.schedule.specs.Schedule.{Schedule}
use Rattle.schedulability.specs.Layers.{reserved}
use Rattle.schedulability.specs.Proper.{guarded}
use Rattle.schedulability.specs.LayersLemmas.{reserved_raise}
use Rattle.tests.specs.Rules.{unblocked, largest, sum_below}
use Rattle.tasks.proofs.Places.{at_some}
use Rattle.timetable.specs.Drawing.{Finishes}
use Rattle.tests.specs.Guarantee.{guaranteed}
use Rattle.tests.specs.Keeps.{sections_raise}
use Rattle.worked_cases.specs.Examples.{row1, row2, row3, row4, light1, heavy2, pair, short, long, crowded, eased, jobs, endings}
use Rattle.worked_cases.proofs.Drawings.{planned, planned_is_schedule, ends_after}
use Rattle.worked_cases.proofs.Plans.{guaranteed_raise, due_earlier, two_planned, two_left, first_left}
use Rattle.worked_cases.proofs.Tables.{two_listed, swapped}
use Rattle.worked_cases.proofs.cases_stand.Goals as goal

-- task 1 with task 2 above: the first release of task 2 is there from the start
early_normal : (s : ℕ) → 1 ≤ s → s < 6 → 3 + (3 * releases 12 s + 0) ≤ s → ⊥
early_normal s a b v = omega (arith, ceil_pos 12 s (omega arith) a)

never_abnormal : (s : ℕ) → 1 ≤ s → s ≤ 10 → 9 + (6 * releases 12 s + 0) ≤ s → ⊥
never_abnormal s a b v = omega (arith, ceil_pos 12 s (omega arith) a)

-- task 2 runs before task 1, and the first job of task 1 before its second
abbrev run : List (Option ℕ)
run = replicate 6 (Some 1) ++ replicate 6 (Some 0) ++ replicate 6 (Some 2) ++ replicate 3 (Some 0) ++ replicate 3 (Some 3)

abbrev drawn : Schedule
drawn = planned (2 ∷ 1 ∷ []) jobs run

told : Finishes pair.places jobs drawn endings
told zero l = (ends_after jobs drawn 0 20 refl refl, at_some _ refl)
told (suc zero) l = (ends_after jobs drawn 1 5 refl refl, at_some _ refl)
told (suc (suc zero)) l = (ends_after jobs drawn 2 17 refl refl, at_some _ refl)
told (suc (suc (suc zero))) l = (ends_after jobs drawn 3 23 refl refl, at_some _ refl)
told (suc (suc (suc (suc j)))) l = absurd (omega arith)

pair_lists : Lists (2 ∷ 1 ∷ []) pair.places
pair_lists = two_listed 1 2 row1 row2 (omega arith) (omega arith) refl

timed_lists : (n : ℕ) → Lists (2 ∷ 1 ∷ []) (set (set (replicate 32 None) 1 (Some (light1 n))) 2 (Some heavy2))
timed_lists n = two_listed 1 2 (light1 n) heavy2 (omega arith) (omega arith) refl

section_lists : (s : ℕ) → Lists (4 ∷ 3 ∷ []) (set (set (replicate 32 None) 3 (Some row3)) 4 (Some (row4 s)))
section_lists s = two_listed 3 4 row3 (row4 s) (omega arith) (omega arith) refl

pub returns : goal.returns
unfolding ceil_div members_from some_up_to largest sum_below
returns c = record {
  alone_normal = (3, refl, (omega arith, omega arith, omega arith, λ s a b v. omega arith));
  alone_abnormal = (6, refl, (omega arith, omega arith, omega arith, λ s a b v. omega arith));
  second_normal = (6, refl, (omega arith, omega arith, omega arith, early_normal));
  second_abnormal = never_abnormal;
  strict_first = refl;
  tolerable_second = refl;
  strict_second = refl;
  load_of_pair = refl;
  over_every_limit = λ limit k h l. lt-leb 1400000 limit (omega arith);
  short_section_below = refl;
  short_section_own = refl;
  long_section_below = refl;
  pair_order = two_planned guaranteed pair 2 1 pair_lists refl refl (λ _. refl);
  reserve_4_order = two_planned (guarded (reserved 4 guaranteed)) pair 2 1 pair_lists refl refl (λ _. refl);
  reserve_5_refused = two_left (guarded (reserved 5 guaranteed)) pair (reserved_raise 5 guaranteed guaranteed_raise) 2 1 pair_lists refl refl;
  crowded_refused = two_left guaranteed crowded guaranteed_raise 2 1 (timed_lists 60) refl refl;
  eased_order = two_planned guaranteed eased 1 2 (swapped 2 1 eased (timed_lists 40)) refl refl (λ x. absurd (due_earlier eased 1 2 160 240 refl refl (omega arith) x));
  short_section_order = two_planned (guarded unblocked) short 3 4 (swapped 4 3 short (section_lists 3)) refl refl (λ x. absurd (due_earlier short 3 4 5 20 refl refl (omega arith) x));
  pair_drawn = (drawn, planned_is_schedule (2 ∷ 1 ∷ []) jobs run refl (omega arith), told);
  long_section_refused = first_left (guarded unblocked) long sections_raise 3 4 (swapped 4 3 long (section_lists 4)) refl refl refl refl;
}
