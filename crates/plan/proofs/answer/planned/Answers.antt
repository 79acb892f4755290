-- The file is planned under the guarantee test, or refused. Assumes nothing.
use Rattle.std.proofs.Common.{ℕ, sym, refl, ◌∙◌, subst, inl, inr}
use Rattle.std.proofs.lemmas.Result.{err_from_is_err_and}
use Rattle.roster_file.proofs.Unique.{layout_one}
use Rattle.priority.specs.Plans.{IsPlan}
use Rattle.tasks.specs.declared.table.Table.{Table}
use Rattle.tests.specs.Guarantee.{guaranteed}
use Rattle.plan.proofs.Single.{not_refused}
use Rattle.plan.proofs.answer.planned.Goals as goal

pub returns-in_err-read-clause-only : goal.returns-in_err-read-clause-only
returns-in_err-read-clause-only c =
    let p = err_from_is_err_and c.from_residual.result c.from_residual.ensures.1 in
    rw p.1 (λ t o q. not_refused c.args.file.now t o _ q (inl (_, c.in_err-read.ensures.outcome, refl)))

pub returns-in_err-order-clause-outcome : goal.returns-in_err-order-clause-outcome
returns-in_err-order-clause-outcome c =
    let p = err_from_is_err_and c.from_residual-in_err-order.result c.from_residual-in_err-order.ensures.1 in
    rw (p.1, p.2) (c.read.new.table, c.read.new.order, c.in_ok-read.ensures.outcome, c.in_err-order.ensures.outcome.0)

pub returns-in_err-order-clause-only : goal.returns-in_err-order-clause-only
returns-in_err-order-clause-only c =
    let p = err_from_is_err_and c.from_residual-in_err-order.result c.from_residual-in_err-order.ensures.1 in
    let none = c.in_err-order.ensures.outcome.0 in
    rw p.1 (λ t o q. not_refused c.args.file.now t o 7 q (inr ((c.read.new.table, c.read.new.order, c.in_ok-read.ensures.outcome, none), refl)))

pub returns-clause-outcome : goal.returns-clause-outcome
returns-clause-outcome c =
    let s = rw c.unwrap.ensures at c.new.ensures in
    rw (s.0, s.1) (c.read.new.order, c.in_ok-read.ensures.outcome, c.in_ok-order.ensures.outcome)

pub returns-clause-only : goal.returns-clause-only
returns-clause-only c t o (k, l, p) =
    let s = rw c.unwrap.ensures at c.new.ensures in
    let same = layout_one c.args.file.now c.read.new.table t c.read.new.order k c.in_ok-read.ensures.outcome l in
    (s.0 ∙ same.0, s.1 ∙ c.in_ok-order.ensures.only o (subst (λ v. IsPlan guaranteed v o) (sym same.0) p))
