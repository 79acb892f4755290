-- What each of the four tests asks of a task. Assumes nothing.
use Rattle.std.specs.Prelude.{ℕ, zero, suc, ◌+◌, ◌*◌, max, Bool, false, cond, ◌||◌, leb, List, Some, None, Option, ◌==◌, nat_le, slice_index_or}
use Rattle.tasks.specs.Sets.{member}
use Rattle.tasks.specs.declared.row.Row.{Row}
use Rattle.demand.specs.Demand.{ceil_div, demand, search_end}
use Rattle.demand.specs.Present.{some_up_to, present}
use Rattle.demand.specs.declared.mode.Mode.{Mode}
use Rattle.demand.specs.declared.mode.Mode.TheVariants.{Normal}
use Rattle.schedulability.specs.Laws.{Meaning}

-- what is asked of the task at a place; no at an empty place
abbrev pub of_task : Option Row → (Row → Bool) → Bool
of_task (Some r) ask = ask r
of_task None ask = false

-- the response time of the task in a mode is present
abbrev pub responds : Mode → Meaning
responds m t k h = of_task (slice_index_or t.places k None) (λ r. present m t.places r h)

-- the largest of the values at the numbers below n, 0 if there is none
unfoldable pub largest : ℕ → (ℕ → ℕ) → ℕ
largest zero f = 0
largest (suc n) f = max (largest n f) (f n)

-- the section of the task at a place; 0 at an empty place
abbrev pub section_at : Option Row → ℕ
section_at (Some r) = r.section
section_at None = 0

-- the section of task j where it is below task k, that is neither k itself nor above it; otherwise 0
abbrev pub section_if_below : List (Option Row) → ℕ → ℕ → ℕ → ℕ
section_if_below ps k h j = cond (j == k || member h j) 0 (section_at (slice_index_or ps j None))

-- the longest that a task below may hold up task k
abbrev pub blocking : List (Option Row) → ℕ → ℕ → ℕ
blocking ps k h = largest 32 (section_if_below ps k h)

-- for some t up to the end of the search, the normal demand and the longest section below are at most t
abbrev pub unblocked : Meaning
unblocked t k h = of_task (slice_index_or t.places k None) (λ r. some_up_to (λ n. leb (demand Normal t.places r h n + blocking t.places k h) n) (search_end r))

-- the sum of the values at the numbers below n
unfoldable pub sum_below : ℕ → (ℕ → ℕ) → ℕ
sum_below zero f = 0
sum_below (suc n) f = sum_below n f + f n

-- the millionths of the processor that a task takes with fault recovery, rounded up; none at an empty place
abbrev pub utilization : Option Row → ℕ
utilization (Some r) = ceil_div (r.abnormal * 1000000) r.period
utilization None = 0

-- the load of a table: the utilization of all its tasks
abbrev pub load : List (Option Row) → ℕ
load ps = sum_below 32 (λ n. utilization (slice_index_or ps n None))

-- the load is at most a limit, whatever the task
abbrev pub loaded : ℕ → Meaning
loaded limit t k h = nat_le (load t.places) limit
