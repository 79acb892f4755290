-- The bytes passed so far are laid. Assumes nothing.
use Rattle.std.proofs.Common.{take}
use Rattle.listing.specs.Pens.{Lays}
use Rattle.listing.proofs.pen.Pen.put_all.Given as goal

abbrev pub invariant-loop-byte : goal.invariant-loop-byte
invariant-loop-byte l = Lays (take l.byte-index l.bytes) l.initial.self l.self
