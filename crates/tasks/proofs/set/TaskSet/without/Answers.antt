use Rattle.std.proofs.Common.{sym, ap, ◌∙◌, arith}
use Rattle.tasks.specs.Sets.{member}
use Rattle.tasks.proofs.Sets.{member_in, sub_excluding, member_excluding}
use Rattle.tasks.proofs.set.TaskSet.without.Goals as goal

pub overflow_shl-result : goal.overflow_shl-result
overflow_shl-result c = member_in 32 c.args.self.bits c.args.number (omega arith) (sym c.if-not-contains.ensures)

pub returns : goal.returns
returns c =
    let h = c.args.self.bits in
    let n = c.args.number in
    let e = sym c.if-not-contains.ensures in
    let same = sub_excluding 32 h n (member_in 32 h n (omega arith) e) e in
    record { bits = same; members = λ j. ap (λ x. member x j) same ∙ member_excluding h n j }
