-- The text is laid from the front on. Assumes nothing.
use Rattle.std.proofs.Common.{refl, rules}
use Rattle.listing.proofs.Pens.{from_front}
use Rattle.listing.proofs.pen.lay_in.Goals as goal

pub returns : goal.returns
returns g c = let kept = c.lay.ensures.lays.same in from_front c.lay.ensures.lays refl (search rules)
