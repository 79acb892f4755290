use Rattle.std.proofs.Common.{ℕ, ◌<◌}
use Rattle.schedule.specs.Jobs.{JobLawful}
use Rattle.timetable.proofs.questions.check.Given as goal

abbrev pub invariant-loop-i : goal.invariant-loop-i
invariant-loop-i l = (e : ℕ) → e < l.i → JobLawful l.standing.table.places l.jobs e
