use Rattle.std.proofs.Common.{sym, ◌∙◌}
use Rattle.tests.proofs.Guaranteeing.{guaranteed_means, guaranteed_from}
use Rattle.tests.proofs.guarantee.is_guaranteed.Goals as goal

pub returns : goal.returns
returns c =
    let t = c.args.table.now in
    let k = c.args.task in
    let h = c.args.above.bits in
    let e = c.passes.ensures.answer ∙ c.guarantee.ensures.means t k h in
    record { value = e; means = (λ y. guaranteed_means t k h (sym e ∙ y), λ g. e ∙ guaranteed_from t k h g) }
