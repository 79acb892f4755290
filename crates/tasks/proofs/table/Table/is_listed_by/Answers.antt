use Rattle.std.proofs.Common.{sym, arith}
use Rattle.std.proofs.lemmas.Bool.{false≢true}
use Rattle.std.proofs.lemmas.Bool.Decides.{Decides-at}
use Rattle.tasks.proofs.Listing.{left_more, left_not, left_end}
use Rattle.tasks.proofs.table.Table.is_listed_by.Goals as goal

pub returns-then-not-contains : goal.returns-then-not-contains
returns-then-not-contains c = (
  λ e. absurd (false≢true e),
  λ s. absurd (left_not c.args.numbers.now c.loop-number.number-index c.loop-number.left.bits c.args.self.now.places (omega arith) c.loop-number.invariant (sym c.if-not-contains.ensures) s),
)

pub loop-number-preserved : goal.loop-number-preserved
loop-number-preserved c =
    left_more c.args.numbers.now c.loop-number.number-index c.loop-number.left.bits c.without-left.result.bits c.args.self.now.places (omega arith) c.loop-number.invariant
    (sym c.if-not-contains.ensures) c.without-left.ensures.members

pub returns : goal.returns
returns c = Decides-at _ _ c.is_empty.ensures.bits (left_end c.args.numbers.now c.loop-number.number-index c.loop-number.left.bits c.args.self.now.places (omega arith) c.loop-number.invariant)
