-- The first line is laid, and then one more with each turn. Assumes nothing.
use Rattle.std.proofs.Common.{arith}
use Rattle.std.proofs.lemmas.List.{take_all}
use Rattle.listing.specs.Texts.{line_text, listing_text}
use Rattle.listing.proofs.Pens.{lays_none, then, lays_more}
use Rattle.listing.proofs.text.LinesText.lay.Goals as goal

pub loop-line-init : goal.loop-line-init
loop-line-init c = record { lays = lays_none c.put.new.self; short = omega arith }

pub loop-line-preserved : goal.loop-line-preserved
loop-line-preserved c = record {
  lays = lays_more line_text c.as_slice-lines.result.now c.loop-line.line-index _ (omega arith) c.loop-line.invariant.lays c.lay-in-loop-line.ensures.lays;
  short = omega arith;
}

pub returns : goal.returns
unfolding listing_text
returns c =
    let head = then (then c.put_all.ensures c.lay.ensures.lays) c.put.ensures in
    let tail = rw (take_all c.loop-line.line-index c.as_slice-lines.result.now (omega arith)) at c.loop-line.invariant.lays in
    rw (← c.as_slice-lines.ensures.value) (record { lays = then head tail; short = omega arith })
