use Rattle.std.proofs.Common.{rules, ◌≡◌, IfSome, None, Option, get_or, subst}
use Rattle.tasks.specs.Bounds.{Bounded}
use Rattle.tasks.specs.declared.row.Row.{Row}
use Rattle.tasks.proofs.Places.{bounded}
use Rattle.tasks.proofs.table.Table.row.Goals as goal

pub returns-clause-bounds : goal.returns-clause-bounds
returns-clause-bounds c =
    let t = c.args.self.now in
    let e : get_or t.places c.args.number None ≡ c.in_ok-get.field-0.now = search rules in
    subst (λ (o : Option Row). IfSome o Bounded) e (bounded t.places c.args.number t.times t.window t.section)
