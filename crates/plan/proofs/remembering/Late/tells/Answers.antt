use Rattle.std.proofs.Common.{rules, sym, ap, ◌∙◌, arith}
use Rattle.std.proofs.lemmas.Bool.{eqb-true}
use Rattle.tasks.specs.declared.kind.Kind.TheVariants.{Strict, Tolerable}
use Rattle.plan.proofs.Late.{told, tables}
use Rattle.plan.proofs.remembering.Late.tells.Goals as goal

pub returns-then-eq : goal.returns-then-eq
returns-then-eq c e =
    let late = c.args.self.now in
    let same = tables _ _ (λ a b y. search rules) eqb-true late.table c.args.table.now (sym c.eq-then-eq.ensures ∙ e) in
    told late.table c.args.table.now late.tasks.bits c.args.task c.args.above.bits late.deadline c.in-Some.row late.late same (search rules) (search rules) c.in-Some.ensures.value (search rules) (omega arith)
