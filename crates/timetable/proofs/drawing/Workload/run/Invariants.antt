use Rattle.std.proofs.Common.{◌≡◌, ℕ, ◌+◌, ◌-◌, ◌≤◌, length, get_or}
use Rattle.queue.specs.Queues.{entries, capacity, SameSpace}
use Rattle.schedule.specs.Jobs.{no_finish, last_release}
use Rattle.timetable.proofs.drawing.Workload.run.Given as goal
use Rattle.timetable.specs.Drawing.{Reached}

abbrev pub invariant-loop-waiting : goal.invariant-loop-waiting
invariant-loop-waiting l =
    Reached l.self.standing.now l.self.jobs.now l.finishes l.time (entries l.coming) (entries l.waiting)
    × (length (entries l.coming) + length (entries l.waiting) ≤ capacity l.waiting)
    × SameSpace l.initial.coming l.coming
    × SameSpace l.initial.waiting l.waiting
    × ((k : ℕ) → length l.self.jobs.now ≤ k → get_or l.finishes k no_finish ≡ get_or l.initial.finishes k no_finish)

-- each turn lets a job in, ends one, or comes nearer to the last release
abbrev pub decreases-loop-waiting : goal.decreases-loop-waiting
decreases-loop-waiting l = last_release - l.time + length (entries l.waiting) + (length (entries l.coming) + length (entries l.coming))
