use Rattle.std.proofs.Common.{◌≡◌, take}
use Rattle.schedulability.specs.Laws.{Alike}
use Rattle.priority.specs.Passing.{named, Passes}
use Rattle.priority.proofs.judge.judge.Given as goal

abbrev pub invariant-loop-i : goal.invariant-loop-i
invariant-loop-i g l =
    let says = g.T.Test.says in
    (l.above.bits ≡ named (take l.i l.order)) × Passes (says l.initial.test) l.table (take l.i l.order) × Alike (says l.test) (says l.initial.test)
