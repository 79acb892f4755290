-- What the faults of planning and judging tell. Assumes nothing.
use Rattle.tasks.specs.Refusals.{plain}
use Rattle.tasks.specs.declared.refusal.Refusal.{Refusal}
use Rattle.tasks.specs.declared.refusal.Layer.TheVariants as layer
use Rattle.priority.specs.declared.fault.PlanFault.{PlanFault}
use Rattle.priority.specs.declared.fault.OrderFault.{OrderFault}

-- no order of the tasks passes
abbrev pub plan_tells : PlanFault → Refusal
plan_tells f = plain 7 layer.Roster 0

-- an order has to name each task once
abbrev pub order_tells : OrderFault → Refusal
order_tells f = plain 18 layer.Roster 0
