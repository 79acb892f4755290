-- The parts of a line are laid one after the other. Assumes nothing.
use Rattle.listing.specs.Texts.{line_text}
use Rattle.listing.proofs.Pens.{then}
use Rattle.listing.proofs.text.LineText.lay.Goals as goal

pub returns-clause-lays : goal.returns-clause-lays
unfolding line_text
returns-clause-lays c =
    let place = then c.lay.ensures.lays c.put.ensures in
    let number = then (then place c.lay-2.ensures.lays) c.put-2.ensures in
    let kind = then (then number c.lay-3.ensures.lays) c.put-3.ensures in
    let normal = then (then kind c.lay-4.ensures.lays) c.put-4.ensures in
    then (then normal c.lay-5.ensures.lays) c.put-5.ensures
