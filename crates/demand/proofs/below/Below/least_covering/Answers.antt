use Rattle.std.proofs.Common.{arith}
use Rattle.demand.proofs.Search.{skip}
use Rattle.demand.proofs.below.Below.least_covering.Goals as goal

pub loop-t-preserved : goal.loop-t-preserved
loop-t-preserved c =
    let ps = c.args.self.now.table.now.places in
    (omega arith, λ s p l. skip c.args.self.now.mode ps c.args.self.now.above.bits c.args.fixed c.loop-t.t c.loop-t.invariant.1 s p (omega (arith, c.interference.ensures.value)))
