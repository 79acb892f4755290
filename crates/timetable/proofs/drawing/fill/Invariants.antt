use Rattle.std.proofs.Common.{◌≡◌, ℕ, cond, ltb, length, sum_by}
use Rattle.queue.specs.Queues.{entries, SameSpace}
use Rattle.std.specs.List.{AllByRecursion}
use Rattle.timetable.proofs.drawing.fill.Given as goal
use Rattle.timetable.specs.Drawing.{Comes, is_for}
use Rattle.timetable.specs.declared.entry.Coming.{Coming}

abbrev pub invariant-loop-i : goal.invariant-loop-i
invariant-loop-i l =
    AllByRecursion (Comes l.jobs 0) (entries l.coming)
    × ((j : ℕ) → sum_by (λ (c : Coming). is_for j c.index) (entries l.coming) ≡ cond (ltb j l.i) 1 0)
    × (length (entries l.coming) ≡ l.i)
    × SameSpace l.initial.coming l.coming
