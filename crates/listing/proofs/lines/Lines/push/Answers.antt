-- The list after a line is pushed. Assumes nothing.
use Rattle.std.proofs.Common.{◌+◌, ◌∙◌, arith, length-set}
use Rattle.std.proofs.lemmas.List.{length-take-le, take_more_set, drop-set-lt}
use Rattle.std.proofs.lemmas.Grind.{drop_more_same}
use Rattle.listing.specs.Rows.{blanks}
use Rattle.listing.proofs.lines.Lines.push.Goals as goal

pub invariant_of-self : goal.invariant_of-self
invariant_of-self c =
    let l = c.self.inside in
    let i = c.self.invariant in
    (omega (arith, length-set l.lines l.len c.args.line), omega arith, drop-set-lt (l.len + 1) l.lines l.len c.args.line (omega arith) ∙ drop_more_same l.lines blanks l.len i.2)

pub returns-clause-pushed : goal.returns-clause-pushed
returns-clause-pushed c =
    let l = c.self.inside in
    let i = c.self.invariant in
    rw (← c.self.view_is) (rw (length-take-le l.len l.lines (omega arith)) (omega arith), take_more_set l.lines l.len c.args.line (omega arith))
