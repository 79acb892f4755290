-- The entries at the places passed so far are written. Assumes nothing.
use Rattle.std.specs.List.{flat_map}
use Rattle.roster_file.specs.Sections.{below}
use Rattle.roster_file.specs.Spaces.{Put}
use Rattle.roster_file.proofs.writer.put_section.Given as goal

abbrev pub invariant-loop-place : goal.invariant-loop-place
invariant-loop-place g l = let d = g.S.Section in Put l.initial.next (flat_map d.encoded (below (d.placed l.section) l.place)) l.initial.space l.space l.next
