-- Which lists of jobs are accepted, and the refusal of any other by the first question that is answered no. Assumes nothing.
use Rattle.std.specs.Prelude.{◌≡◌, ℕ, ◌<◌, ◌≤◌, List, length, Option}
use Rattle.schedule.specs.Jobs.{job_at, Known, Timed, Spaced, JobLawful, JobsLawful}
use Rattle.schedule.specs.declared.job.Job.{Job}
use Rattle.tasks.specs.declared.row.Row.{Row}
use Rattle.timetable.specs.declared.fault.TimetableFault.{TimetableFault}
use Rattle.timetable.specs.declared.fault.TimetableFault.TheVariants as refused

-- the most jobs that a timetable is drawn for
abbrev pub most_jobs : ℕ
most_jobs = 4096

-- the question about the number of jobs n and the lengths of the finish list and the two working lists
abbrev pub Room : ℕ → ℕ → ℕ → ℕ → Type 0
Room n finishes coming waiting = (n ≤ most_jobs) × (n ≤ finishes) × (n ≤ coming) × (n ≤ waiting)

-- every question is answered yes
abbrev pub Accepted : List (Option Row) → List Job → ℕ → ℕ → ℕ → Type 0
Accepted ps js finishes coming waiting = Room (length js) finishes coming waiting × JobsLawful ps js

-- the questions of the job with an index are put: there is room, and every question of the jobs before it is answered yes
abbrev pub Asked : List (Option Row) → List Job → ℕ → ℕ → ℕ → ℕ → Type 0
Asked ps js finishes coming waiting i = Room (length js) finishes coming waiting × (i < length js) × ((e : ℕ) → e < i → JobLawful ps js e)

-- the questions before this one are answered yes, and this one is not; the place told is the number of jobs or the index of the job
abbrev pub Refused : List (Option Row) → List Job → ℕ → ℕ → ℕ → TimetableFault → Type 0
Refused ps js finishes coming waiting (refused.Space n) = (n ≡ length js) × (Room n finishes coming waiting → ⊥)
Refused ps js finishes coming waiting (refused.Task i) = Asked ps js finishes coming waiting i × (Known ps (job_at js i) → ⊥)
Refused ps js finishes coming waiting (refused.Times i) = Asked ps js finishes coming waiting i × Known ps (job_at js i) × (Timed ps (job_at js i) → ⊥)
Refused ps js finishes coming waiting (refused.Distance i) = Asked ps js finishes coming waiting i × Known ps (job_at js i) × Timed ps (job_at js i) × (Spaced ps js i → ⊥)

-- whatever the table, the jobs and the lengths of the lists: no two refusals, and none of what is accepted
abbrev pub OneAnswer : Type 0
OneAnswer = (ps : List (Option Row)) (js : List Job) (finishes coming waiting : ℕ)
    → ((f g : TimetableFault) → Refused ps js finishes coming waiting f → Refused ps js finishes coming waiting g → f ≡ g)
    × (Accepted ps js finishes coming waiting → (f : TimetableFault) → Refused ps js finishes coming waiting f → ⊥)
