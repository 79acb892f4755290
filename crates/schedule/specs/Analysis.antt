-- The statement that the analysis of demand is sound. Assumes nothing.
use Rattle.std.specs.Prelude.{◌≡◌, ℕ, ◌+◌, ◌<◌, ◌≤◌, true, List, length, Some, None, Option, slice_index_or}
use Rattle.demand.specs.Demand.{Serves, search_end, told}
use Rattle.demand.specs.declared.mode.Mode.{Mode}
use Rattle.demand.specs.declared.mode.Mode.TheVariants.{Normal, Abnormal}
use Rattle.tasks.specs.Sets.{member}
use Rattle.tasks.specs.declared.row.Row.{Row}
use Rattle.tasks.specs.declared.standing.Standing.{Standing}
use Rattle.schedule.specs.Jobs.{job_at, arrival, due, JobsLawful, KeepsNormal}
use Rattle.schedule.specs.Schedule.{Schedule, Higher, IsSchedule, Ends}
use Rattle.schedule.specs.declared.job.Job.{Job}

-- what a mode asks of the jobs: in normal mode each keeps its normal time, in abnormal mode no more than that the list is lawful
abbrev pub Keeps : Mode → List (Option Row) → List Job → Type 0
Keeps Normal ps js = (j : ℕ) → j < length js → KeepsNormal ps (job_at js j)
Keeps Abnormal ps js = Unit {0}

-- every task that stands before task k in the order is in the set
abbrev pub HasAbove : List ℕ → ℕ → ℕ → Type 0
HasAbove o k h = (i : ℕ) → Higher o i k → member h i ≡ true

-- In a schedule of a lawful list of jobs that keep to the mode, let t ticks up to the end of the search serve task k below the tasks that stand before it. Then
-- each job of task k ends within the time that is told of t, and when it is due at the latest. Nothing is asked of the other tasks.
abbrev pub AnalysisSound : Type 0
AnalysisSound = (m : Mode) (s : Standing) (js : List Job) (σ : Schedule)
    → JobsLawful s.table.places js → Keeps m s.table.places js → IsSchedule s.order js σ
    → (k : ℕ) (r : Row) (h t : ℕ) → slice_index_or s.table.places k None ≡ Some r → HasAbove s.order k h
    → t ≤ search_end r → Serves m s.table.places r h t
    → (j f : ℕ) → j < length js → (job_at js j).task ≡ k → Ends js σ j f
    → (f ≤ arrival (job_at js j) + told r t) × (f ≤ due r (job_at js j))
