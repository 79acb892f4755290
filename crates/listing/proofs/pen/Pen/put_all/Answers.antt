-- One more byte is laid with each turn. Assumes nothing.
use Rattle.std.proofs.Common.{arith}
use Rattle.std.proofs.lemmas.List.{take_more}
use Rattle.listing.proofs.Pens.{lays_none, then}
use Rattle.listing.proofs.pen.Pen.put_all.Goals as goal

pub loop-byte-init : goal.loop-byte-init
loop-byte-init c = lays_none c.args.self.now

pub loop-byte-preserved : goal.loop-byte-preserved
loop-byte-preserved c =
    rw (take_more c.args.bytes.now c.loop-byte.byte-index 0 (omega arith)) (then c.loop-byte.invariant c.put.ensures)
