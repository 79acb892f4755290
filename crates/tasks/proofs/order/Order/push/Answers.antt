use Rattle.std.proofs.Common.{◌∙◌, arith, length-set}
use Rattle.tasks.proofs.Ordered.{one_more}
use Rattle.tasks.proofs.order.Order.push.Goals as goal

pub invariant_of-self : goal.invariant_of-self
invariant_of-self c =
    let o = c.self.inside in
    let few = c.if-self-eq-PLACES.false in
    (omega (arith, c.self.invariant.0), length-set _ _ _ ∙ c.self.told, one_more o.numbers o.len c.args.number 32 (omega (arith, c.self.invariant.0)) c.self.told c.self.invariant.2)
