-- The last digit is laid after the digits of the tenth. Assumes nothing.
use Rattle.std.proofs.Common.{◌/◌, arith}
use Rattle.std.proofs.lemmas.Fmt.{decimal_digit, decimal_step, length-decimal-le}
use Rattle.listing.proofs.Pens.{then}
use Rattle.listing.proofs.text.U32Text.+lay.Goals as goal

pub put-requires-else-n-lt10 : goal.put-requires-else-n-lt10
put-requires-else-n-lt10 t c =
    omega (arith, c.lay.ensures.lays.ends, length-decimal-le 9 (c.args.self.now / 10) (omega arith) (omega arith) (omega arith))

pub returns-then-n-lt10-clause-lays : goal.returns-then-n-lt10-clause-lays
returns-then-n-lt10-clause-lays t c = rw (decimal_digit c.args.self.now (omega arith)) c.put.ensures

pub returns-else-n-lt10-clause-lays : goal.returns-else-n-lt10-clause-lays
returns-else-n-lt10-clause-lays t c =
    let n = c.args.self.now in
    let all = then c.lay.ensures.lays c.put-else-n-lt10.ensures in
    rw (← decimal_step n (omega arith) (omega arith)) at all

pub returns-else-n-lt10-clause-short : goal.returns-else-n-lt10-clause-short
returns-else-n-lt10-clause-short t c =
    omega (arith, c.lay.ensures.lays.ends, length-decimal-le 9 (c.args.self.now / 10) (omega arith) (omega arith) (omega arith))
