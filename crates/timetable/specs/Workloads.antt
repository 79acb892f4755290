-- Jobs of a standing table are lawful in one way at most, so that a workload may keep it as a fact of its own. Assumes nothing.
use Rattle.std.proofs.Common.{◌≡◌, ℕ, ◌≤◌, List, Some, None, slice_index_or, ap, inl, inr, arith}
use Rattle.std.proofs.Math.Bridge.{le_prop}
use Rattle.std.proofs.Props.{props}
use Rattle.schedule.specs.Jobs.{Apart, Spaced, JobsLawful, job_at}
use Rattle.schedule.specs.declared.job.Job.{Job}
use Rattle.tasks.specs.declared.row.Row.{Row}
use Rattle.tasks.specs.declared.standing.Standing.{Standing}

-- of two jobs a period apart the one or the other comes first, as a period has a tick at least
Apart-prop : (r : Row) (x y : Job) → 1 ≤ r.period → IsProp (Apart r x y)
Apart-prop r x y some (inl a) (inl b) = ap inl (le_prop a b)
Apart-prop r x y some (inl a) (inr b) = absurd (omega arith)
Apart-prop r x y some (inr a) (inl b) = absurd (omega arith)
Apart-prop r x y some (inr a) (inr b) = ap inr (le_prop a b)

Spaced-prop : (s : Standing) (js : List Job) (i : ℕ) → IsProp (Spaced s.table.places js i)
Spaced-prop s js i x y = λ k e r before same row. Apart-prop r (job_at js e) (job_at js i) (some r row) (x e r before same row) (y e r before same row) k where
  some : (r : Row) → slice_index_or s.table.places (job_at js i).task None ≡ Some r → 1 ≤ r.period
  some r row = omega (arith, s.table.window (job_at js i).task r row)

pub JobsLawful-prop : (s : Standing) (js : List Job) → IsProp (JobsLawful s.table.places js)
JobsLawful-prop s js = hlevel (props, Spaced-prop s js)
