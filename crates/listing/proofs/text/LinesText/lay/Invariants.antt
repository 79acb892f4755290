-- The lines passed so far are laid. Assumes nothing.
use Rattle.std.proofs.Common.{◌+◌, ◌*◌, ◌≤◌, take}
use Rattle.std.specs.List.{flat_map}
use Rattle.listing.specs.Pens.{Lays}
use Rattle.listing.specs.Texts.{line_text}
use Rattle.listing.proofs.text.LinesText.lay.Given as goal

abbrev pub invariant-loop-line : goal.invariant-loop-line
invariant-loop-line l = record {
  lays : Lays (flat_map line_text (take l.line-index l.lines)) l.initial.pen l.pen;
  short : l.pen.at ≤ l.initial.pen.at + 46 * l.line-index;
}
