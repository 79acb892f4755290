-- What a schedule of jobs is, under an order of their tasks: fully preemptive, tick by tick. Assumes nothing.
use Rattle.std.specs.Prelude.{◌≡◌, ℕ, zero, suc, ◌+◌, ◌<◌, ◌≤◌, cond, ◌≢◌, ◌⊎◌, List, [], ◌∷◌, length, Some, None, Option, ◌==◌}
use Rattle.schedule.specs.Jobs.{job_at}
use Rattle.schedule.specs.declared.job.Job.{Job}

-- the job that runs in each tick, or none where the processor is idle
abbrev pub Schedule : Type 0
Schedule = ℕ → Option ℕ

-- 1 if job j is what runs, else 0
abbrev pub runs : Option ℕ → ℕ → ℕ
runs None j = 0
runs (Some i) j = cond (i == j) 1 0

-- how many of the ticks before t job j has run in
abbrev pub served : Schedule → ℕ → ℕ → ℕ
served σ j zero = 0
served σ j (suc t) = served σ j t + runs (σ t) j

-- job j is released by tick t, and has not all its ticks when t begins
abbrev pub Pending : List Job → Schedule → ℕ → ℕ → Type 0
Pending js σ j t = ((job_at js j).release ≤ t) × (served σ j t < (job_at js j).length)

-- how many tasks stand before a task in an order
abbrev pub place : List ℕ → ℕ → ℕ
place [] n = 0
place (x ∷ xs) n = cond (x == n) 0 (suc (place xs n))

-- task i stands before task k in an order
abbrev pub Higher : List ℕ → ℕ → ℕ → Type 0
Higher o i k = place o i < place o k

-- job x goes before job y: its task stands before the other's, or it is the earlier released of two jobs of one task
abbrev pub Before : List ℕ → Job → Job → Type 0
Before o x y = Higher o x.task y.task ⊎ ((x.task ≡ y.task) × (x.release < y.release))

-- in each tick the pending job runs that goes before all other pending jobs, and the processor is idle only where none is pending
pub record IsSchedule (o : List ℕ) (js : List Job) (σ : Schedule) : Type 0 where
  pub listed : (t j : ℕ) → σ t ≡ Some j → j < length js
  pub pending : (t j : ℕ) → σ t ≡ Some j → Pending js σ j t
  pub first : (t j i : ℕ) → σ t ≡ Some j → Pending js σ i t → i ≢ j → Before o (job_at js j) (job_at js i)
  pub idle : (t i : ℕ) → σ t ≡ None → Pending js σ i t → ⊥

-- job j ends at tick f: that is the least tick by which it has all its ticks
abbrev pub Ends : List Job → Schedule → ℕ → ℕ → Type 0
Ends js σ j f = ((job_at js j).length ≤ served σ j f) × ((u : ℕ) → u < f → served σ j u < (job_at js j).length)
