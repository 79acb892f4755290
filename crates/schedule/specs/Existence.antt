-- The statement that a lawful list of jobs has one schedule, in which every job ends. Assumes nothing.
use Rattle.std.specs.Prelude.{◌≡◌, ℕ, ◌<◌, List, length}
use Rattle.tasks.specs.declared.standing.Standing.{Standing}
use Rattle.schedule.specs.Jobs.{JobsLawful}
use Rattle.schedule.specs.Schedule.{Schedule, IsSchedule, Ends}
use Rattle.schedule.specs.declared.job.Job.{Job}

-- every schedule of these jobs runs the same job in each tick
abbrev pub Only : List ℕ → List Job → Schedule → Type 0
Only o js σ = (τ : Schedule) → IsSchedule o js τ → (t : ℕ) → τ t ≡ σ t

-- every job ends, at one tick
abbrev pub AllEnd : List Job → Schedule → Type 0
AllEnd js σ = (j : ℕ) → j < length js → (f : ℕ) × Ends js σ j f × ((g : ℕ) → Ends js σ j g → g ≡ f)

-- under a standing order, every lawful list of jobs has a schedule; it is the only one, and every job ends in it
abbrev pub OneSchedule : Type 0
OneSchedule = (s : Standing) (js : List Job) → JobsLawful s.table.places js
    → (σ : Schedule) × IsSchedule s.order js σ × Only s.order js σ × AllEnd js σ
