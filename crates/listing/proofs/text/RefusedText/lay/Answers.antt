-- The parts of a refusal are laid one after the other. Assumes nothing.
use Rattle.listing.specs.Texts.{refusal_text}
use Rattle.listing.proofs.Pens.{then}
use Rattle.listing.proofs.text.RefusedText.lay.Goals as goal

pub returns-clause-lays : goal.returns-clause-lays
unfolding refusal_text
returns-clause-lays c = then (then c.put_all.ensures c.lay.ensures.lays) c.put.ensures
