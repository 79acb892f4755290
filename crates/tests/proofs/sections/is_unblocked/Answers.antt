use Rattle.std.proofs.Common.{◌+◌, leb, ap, ◌∙◌}
use Rattle.demand.specs.Demand.{demand, search_end}
use Rattle.demand.specs.Present.{some_up_to}
use Rattle.demand.specs.declared.mode.Mode.TheVariants.{Normal}
use Rattle.tests.specs.Rules.{of_task, blocking}
use Rattle.tests.proofs.Answers.{covering_says}
use Rattle.tests.proofs.sections.is_unblocked.Goals as goal

pub returns : goal.returns
returns c =
    let t = c.args.table.now in
    let k = c.args.task in
    let h = c.args.above.bits in
    let r = c.in-Some.row in
    let fixed = ap (λ n. r.normal + n) c.longest_section.ensures.value in
    c.is_some.ensures
    ∙ covering_says t.places r k h _ c.least_covering.result fixed c.least_covering.ensures
    ∙ ap (λ o. of_task o (λ s. some_up_to (λ n. leb (demand Normal t.places s h n + blocking t.places k h) n) (search_end s))) c.in-Some.ensures.value
