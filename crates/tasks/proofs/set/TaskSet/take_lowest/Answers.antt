use Rattle.std.proofs.Common.{◌<◌, sym, ap, ◌∙◌, arith, rules}
use Rattle.tasks.proofs.Members.{lowest, take_off, rising}
use Rattle.tasks.specs.Sets.{member}
use Rattle.tasks.proofs.set.TaskSet.take_lowest.Goals as goal

pub returns : goal.returns
returns c =
    let h = c.args.self.now.bits in
    let some : 0 < h = search rules in
    let r = lowest 0 32 h some (omega arith) in
    (take_off 32 h some (omega arith), omega (arith, r.0), r.2, λ j y. rising 32 h j (omega arith) (ap (λ x. member x j) (sym r.2) ∙ y))
