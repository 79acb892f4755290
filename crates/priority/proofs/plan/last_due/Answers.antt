use Rattle.std.proofs.Common.{rules, ap, arith}
use Rattle.priority.proofs.Walks.{first_tried}
use Rattle.priority.proofs.plan.last_due.Goals as goal

pub returns : goal.returns
returns c = first_tried _ c.args.table.now _ (λ x k f h. search rules) c.args.tasks.bits c.into_iter.result c.max_by_key.result (omega arith) (ap (λ s. s.bits) c.into_iter.ensures.into_iter_gives) c.max_by_key.ensures.ran
