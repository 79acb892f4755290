-- What a drawing gives, and what its two queues hold between events. Assumes nothing.
use Rattle.std.specs.Prelude.{◌≡◌, ℕ, ◌+◌, ◌<◌, ◌≤◌, cond, List, length, Some, None, sum_by, Option, ◌==◌, slice_index_or}
use Rattle.schedule.specs.Jobs.{no_finish, job_at, lateness}
use Rattle.schedule.specs.Schedule.{Schedule, served, place, IsSchedule, Ends}
use Rattle.schedule.specs.declared.job.Finish.{Finish}
use Rattle.schedule.specs.declared.job.Job.{Job}
use Rattle.std.specs.List.{AllByRecursion}
use Rattle.tasks.specs.declared.row.Row.{Row}
use Rattle.tasks.specs.declared.standing.Standing.{Standing}
use Rattle.timetable.specs.declared.entry.Coming.{Coming}
use Rattle.timetable.specs.declared.entry.Waiting.{Waiting}

-- ---- what is wanted

-- the finish and the lateness told are those of job j in a schedule
abbrev pub FinishOf : List (Option Row) → List Job → Schedule → ℕ → Finish → Type 0
FinishOf ps js σ j f = Ends js σ j f.finish × ((r : Row) → slice_index_or ps (job_at js j).task None ≡ Some r → f.lateness ≡ lateness r (job_at js j) f.finish)

-- a finish list begins with the finish and the lateness of each job in a schedule, in the sequence of the job list
abbrev pub Finishes : List (Option Row) → List Job → Schedule → List Finish → Type 0
Finishes ps js σ fs = (j : ℕ) → j < length js → FinishOf ps js σ j (slice_index_or fs j no_finish)

-- a finish list tells the schedule that the standing order gives the jobs
abbrev pub Drawn : Standing → List Job → List Finish → Type 0
Drawn s js fs = (σ : Schedule) × IsSchedule s.order js σ × Finishes s.table.places js σ fs

-- ---- between events

-- an entry for a job of the list that is not released before t
abbrev pub Comes : List Job → ℕ → Coming → Type 0
Comes js t c = (c.index < length js) × (c.release ≡ (job_at js c.index).release) × (t ≤ c.release)

-- an entry for a job of the list that is released by t, with its rank, and with the ticks that it has not had before t
abbrev pub Waits : List ℕ → List Job → Schedule → ℕ → Waiting → Type 0
Waits o js σ t w =
    (w.index < length js) × (w.place ≡ place o (job_at js w.index).task) × (w.release ≡ (job_at js w.index).release) × (w.release ≤ t)
    × (1 ≤ w.left) × (served σ w.index t + w.left ≡ (job_at js w.index).length)

-- 1 if an entry is for job j, else 0
abbrev pub is_for : ℕ → ℕ → ℕ
is_for j i = cond (i == j) 1 0

-- how many entries job j has in the two queues
abbrev pub tally : ℕ → List Coming → List Waiting → ℕ
tally j cs ws = sum_by (λ (c : Coming). is_for j c.index) cs + sum_by (λ (w : Waiting). is_for j w.index) ws

-- At tick t the first queue holds jobs that are not released before t, the second those that are released and not finished; no job has two entries, and one that has none is finished, with
-- its finish told.
pub record Between (ps : List (Option Row)) (o : List ℕ) (js : List Job) (σ : Schedule) (fs : List Finish) (t : ℕ) (cs : List Coming) (ws : List Waiting) : Type 0 where
  pub coming : AllByRecursion (Comes js t) cs
  pub waiting : AllByRecursion (Waits o js σ t) ws
  pub once : (j : ℕ) → tally j cs ws ≤ 1
  pub told : (j : ℕ) → j < length js → tally j cs ws ≡ 0 → FinishOf ps js σ j (slice_index_or fs j no_finish) × ((slice_index_or fs j no_finish).finish ≤ t)

-- the same in the schedule of the jobs, of which there is one
abbrev pub Reached : Standing → List Job → List Finish → ℕ → List Coming → List Waiting → Type 0
Reached s js fs t cs ws = (σ : Schedule) → IsSchedule s.order js σ → Between s.table.places s.order js σ fs t cs ws
