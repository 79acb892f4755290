-- The tasks passed so far have their lines. Assumes nothing.
use Rattle.std.proofs.Common.{◌≡◌, take}
use Rattle.priority.specs.Passing.{named}
use Rattle.plan.specs.Answers.{LinesOf}
use Rattle.plan.proofs.answer.lines.Given as goal

abbrev pub invariant-loop-i : goal.invariant-loop-i
invariant-loop-i l = record {
  above : l.above.bits ≡ named (take l.i l.standing.order);
  lines : LinesOf l.standing.table (take l.i l.standing.order) l.lines;
}
