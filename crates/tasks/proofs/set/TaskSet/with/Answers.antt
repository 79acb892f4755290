use Rattle.std.proofs.Common.{◌&&◌, ◌||◌, eqb, sym, ap, ◌∙◌, arith}
use Rattle.std.proofs.lemmas.Bool.{le-leb, cond-true}
use Rattle.tasks.specs.Sets.{member}
use Rattle.tasks.proofs.Sets.{or_including, member_including, and_true}
use Rattle.tasks.proofs.set.TaskSet.with.Goals as goal

pub returns : goal.returns
returns c =
    let h = c.args.self.bits in
    let n = c.args.number in
    let few = le-leb n 31 (omega arith) in
    let e = or_including 32 h n (omega arith) in
    record {
      bits = e ∙ sym (cond-true _ _ _ few);
      members = λ j. ap (λ x. member x j) e ∙ member_including h n j ∙ sym (ap (λ x. member h j || (eqb j n && x)) few ∙ ap (λ x. member h j || x) (and_true (eqb j n)));
    }
