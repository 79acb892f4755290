use Rattle.std.proofs.Common.{get_or, None, ◌∙◌, arith, rules}
use Rattle.tests.proofs.Answers.{response_says, deadline_says}
use Rattle.tests.proofs.response.is_in_time.Goals as goal

pub returns-then-is_some_and : goal.returns-then-is_some_and
returns-then-is_some_and c =
    let t = c.args.table.now in
    let b = c.in-Some.ensures.bounds in
    deadline_says c.args.mode t.places c.args.above.bits (get_or t.places c.args.task None) c.in-Some.row c.demand.result c.is_some_and.result c.in-Some.ensures.value c.demand.ensures (omega arith) c.is_some_and.ensures (λ n p. search rules) c.if-is_some_and.true

pub returns-else-is_some_and : goal.returns-else-is_some_and
returns-else-is_some_and c =
    let t = c.args.table.now in
    let h = c.args.above.bits in
    c.is_some.ensures ∙ response_says c.args.mode t.places h (get_or t.places c.args.task None) c.response.result c.response.ensures
