use Rattle.std.proofs.Common.{rules, sym, ◌∙◌}
use Rattle.plan.proofs.Late.{none_by}
use Rattle.plan.proofs.remembering.Remembering.remember.Goals as goal

pub invariant_of-self : goal.invariant_of-self
invariant_of-self c = record { late = none_by c.args.table.now c.args.above.bits c.with.result.bits c.args.task c.in-Some.row (sym c.in-Some.ensures.value) (search rules) c.with.ensures.members c.requires }
