-- A byte past the end changes nothing. Assumes nothing.
use Rattle.std.proofs.Common.{refl, rules}
use Rattle.std.proofs.lemmas.List.{set_past}
use Rattle.listing.specs.Pens.{laid}
use Rattle.listing.proofs.pen.Pen.put.Goals as goal
use Rattle.listing.proofs.pen.Pen.put.Goals.{then-self, else-self}

pub returns : goal.returns
unfolding laid
returns c =
    elim c.if-self.branch [
      | then-self w ↦ rw w.self-is (record { same = refl; ends = refl; lies = refl })
      | else-self w ↦ rw w.self-is (record { same = refl; ends = refl; lies = search (rules, set_past) })
    ]
