-- Jobs of the tasks on a table, and which lists of jobs are lawful. A job goes by its index in the list. Assumes nothing.
use Rattle.std.specs.Prelude.{◌≡◌, ℕ, ◌+◌, ◌-◌, ◌<◌, ◌≤◌, true, ◌⊎◌, List, length, Some, None, Option, slice_index_or}
use Rattle.tasks.specs.Orders.{in_use}
use Rattle.tasks.specs.declared.row.Row.{Row}
use Rattle.schedule.specs.declared.job.Job.{Job}
use Rattle.schedule.specs.declared.job.Finish.{Finish}

-- a job with nothing to run
abbrev pub no_job : Job
no_job = record { task = 0; release = 0; length = 0 }

-- a finish that nothing was written into
abbrev pub no_finish : Finish
no_finish = record { finish = 0; lateness = 0 }

-- the job with an index; past the end of the list one with nothing to run
abbrev pub job_at : List Job → ℕ → Job
job_at js i = slice_index_or js i no_job

-- the tick from which the distance between two jobs of a task is measured
abbrev pub arrival : Job → ℕ
arrival x = x.release

-- the tick by which a job of the task with this row is due
abbrev pub due : Row → Job → ℕ
due r x = x.release + r.deadline

-- by how much a job that ends at tick f is late: 0 up to the tick by which it is due
abbrev pub lateness : Row → Job → ℕ → ℕ
lateness r x f = f - due r x

-- the last tick in which a job may be released
abbrev pub last_release : ℕ
last_release = 1000000000

-- the question whether its task is on the roster
abbrev pub Known : List (Option Row) → Job → Type 0
Known ps x = in_use ps x.task ≡ true

-- a job of the task with this row is not released too late, and its length is from 1 to the abnormal time
abbrev pub InBounds : Row → Job → Type 0
InBounds r x = (x.release ≤ last_release) × (1 ≤ x.length) × (x.length ≤ r.abnormal)

-- the question about its release and its length
abbrev pub Timed : List (Option Row) → Job → Type 0
Timed ps x = (r : Row) → slice_index_or ps x.task None ≡ Some r → InBounds r x

-- two jobs of the task with this row arrive at least a period apart, whichever comes first
abbrev pub Apart : Row → Job → Job → Type 0
Apart r x y = (arrival x + r.period ≤ arrival y) ⊎ (arrival y + r.period ≤ arrival x)

-- the question about its distance from every job of its task that is listed before it
abbrev pub Spaced : List (Option Row) → List Job → ℕ → Type 0
Spaced ps js i = (e : ℕ) (r : Row) → e < i → (job_at js e).task ≡ (job_at js i).task → slice_index_or ps (job_at js i).task None ≡ Some r → Apart r (job_at js e) (job_at js i)

-- all three questions of the job with an index are answered yes
abbrev pub JobLawful : List (Option Row) → List Job → ℕ → Type 0
JobLawful ps js i = Known ps (job_at js i) × Timed ps (job_at js i) × Spaced ps js i

-- every job of the list is lawful
abbrev pub JobsLawful : List (Option Row) → List Job → Type 0
JobsLawful ps js = (i : ℕ) → i < length js → JobLawful ps js i

-- the job is no longer than its task's normal time
abbrev pub KeepsNormal : List (Option Row) → Job → Type 0
KeepsNormal ps x = (r : Row) → slice_index_or ps x.task None ≡ Some r → x.length ≤ r.normal
