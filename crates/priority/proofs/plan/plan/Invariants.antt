use Rattle.schedulability.specs.Laws.{Alike}
use Rattle.priority.specs.Fillings.{Filled}
use Rattle.priority.specs.Plans.{FirstYes}
use Rattle.priority.proofs.plan.plan.Given as goal

abbrev pub invariant-loop-task : goal.invariant-loop-task
invariant-loop-task g l =
    let says = g.T.Test.says in
    Filled (FirstYes (says l.initial.test) l.table) l.initial.left.bits l.upwards l.left.bits × Alike (says l.test) (says l.initial.test)

abbrev pub decreases-loop-task : goal.decreases-loop-task
decreases-loop-task g l = l.left.bits
