-- What the definitions say of small tables. Assumes nothing.
use Rattle.std.specs.Prelude.{◌≡◌, ℕ, ◌≤◌, true, false, [], ◌∷◌, Some, None}
use Rattle.demand.specs.Demand.{IsResponse}
use Rattle.demand.specs.declared.mode.Mode.TheVariants.{Normal, Abnormal}
use Rattle.priority.specs.Fillings.{LeftOver}
use Rattle.priority.specs.Passing.{NoOrder}
use Rattle.priority.specs.Plans.{IsPlan}
use Rattle.schedule.specs.Schedule.{Schedule, IsSchedule}
use Rattle.schedulability.specs.Laws.{Meaning}
use Rattle.schedulability.specs.Layers.{reserved}
use Rattle.schedulability.specs.Proper.{guarded}
use Rattle.tasks.specs.declared.table.Table.{Table}
use Rattle.timetable.specs.Drawing.{Finishes}
use Rattle.tests.specs.Guarantee.{guaranteed}
use Rattle.tests.specs.Rules.{unblocked, load, loaded}
use Rattle.worked_cases.specs.Examples.{row1, row2, pair, short, long, crowded, eased, jobs, endings}

-- the plan is refused with this set of tasks left
abbrev pub Refused : Meaning → Table → ℕ → Type 0
Refused says t l = NoOrder says t × LeftOver says t l

-- a set is written as its bits: 0 is empty, 2 holds task 1, 4 holds task 2 and 8 holds task 3
pub record Cases : Type 0 where
  -- task 2 with nothing above it
  pub alone_normal : IsResponse Normal pair.places row2 0 (Some 3)
  pub alone_abnormal : IsResponse Abnormal pair.places row2 0 (Some 6)
  -- task 1 with task 2 above it
  pub second_normal : IsResponse Normal pair.places row1 4 (Some 6)
  pub second_abnormal : IsResponse Abnormal pair.places row1 4 None
  -- the strict task 2 goes above the tolerable task 1, and not the other way round
  pub strict_first : guaranteed pair 2 0 ≡ true
  pub tolerable_second : guaranteed pair 1 4 ≡ true
  pub strict_second : guaranteed pair 2 2 ≡ false
  -- with fault recovery the two take more than the whole processor
  pub load_of_pair : load pair.places ≡ 1400000
  pub over_every_limit : (limit k h : ℕ) → limit ≤ 1000000 → loaded limit pair k h ≡ false
  -- a section of task 4 holds up task 3, and not task 4 itself
  pub short_section_below : guarded unblocked short 3 0 ≡ true
  pub short_section_own : guarded unblocked short 4 8 ≡ true
  pub long_section_below : guarded unblocked long 3 0 ≡ false
  -- the plans: highest priority first, or the set of the tasks left
  pub pair_order : IsPlan guaranteed pair (2 ∷ 1 ∷ [])
  pub reserve_4_order : IsPlan (guarded (reserved 4 guaranteed)) pair (2 ∷ 1 ∷ [])
  pub reserve_5_refused : Refused (guarded (reserved 5 guaranteed)) pair 6
  pub crowded_refused : Refused guaranteed crowded 6
  pub eased_order : IsPlan guaranteed eased (1 ∷ 2 ∷ [])
  pub short_section_order : IsPlan (guarded unblocked) short (3 ∷ 4 ∷ [])
  pub long_section_refused : Refused (guarded unblocked) long 8
  -- the jobs of the pair under the order 2, 1: when each ends, and by how much it is late
  pub pair_drawn : (σ : Schedule) × IsSchedule (2 ∷ 1 ∷ []) jobs σ × Finishes pair.places jobs σ endings
