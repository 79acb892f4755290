use Rattle.std.proofs.Common.{◌≡◌, ◌-◌, ◌*◌, ◌∙◌, arith}
use Rattle.demand.proofs.Rounding.{ceil_quotient, ceil_pos}
use Rattle.demand.proofs.Search.{too_early}
use Rattle.demand.proofs.below.Below.start.Goals as goal
use Rattle.demand.specs.Demand.{ceil_div}

pub returns : goal.returns
returns c =
    let f = c.args.fixed in
    let u = c.load-taken.result in
    let e : c.div_ceil.result ≡ ceil_div (f * 1000000) (1000000 - u) = c.div_ceil.ensures ∙ ceil_quotient (1000000 - u) (f * 1000000) (omega arith) in
    (omega (arith, ceil_pos (1000000 - u) (f * 1000000) (omega arith) (omega arith)), λ s p l. too_early f u _ s (c.load-taken.ensures s) (omega arith) (omega arith))
