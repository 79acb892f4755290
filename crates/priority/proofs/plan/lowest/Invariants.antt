use Rattle.schedulability.specs.Laws.{Alike}
use Rattle.priority.proofs.Candidates.{Tried}
use Rattle.priority.proofs.plan.lowest.Given as goal

abbrev pub invariant-loop-task : goal.invariant-loop-task
invariant-loop-task g l =
    let says = g.T.Test.says in
    Tried (says l.initial.test) l.table l.initial.untried.bits l.untried.bits × Alike (says l.test) (says l.initial.test)

abbrev pub decreases-loop-task : goal.decreases-loop-task
decreases-loop-task g l = l.untried.bits
