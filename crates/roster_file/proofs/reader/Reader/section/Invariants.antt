use Rattle.roster_file.specs.Sections.{Kept}
use Rattle.roster_file.proofs.reader.Reader.section.Given as goal

abbrev pub invariant-loop-kept : goal.invariant-loop-kept
invariant-loop-kept g l =
    let d = g.S.Section in
    Kept d.WIDTH d.encoded d.holds l.initial.self.rest.now l.initial.self.at l._kept l.section l.self.rest.now l.self.at
