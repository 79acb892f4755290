use Rattle.std.proofs.Common.{[], ◌∷◌, ◌++◌, length, sym, ◌∙◌, subst, arith}
use Rattle.std.proofs.lemmas.List.{length-append}
use Rattle.std.proofs.lemmas.Bool.{cond-true, lt-ltb, eqb-true, eqb-false}
use Rattle.tasks.specs.Sets.{excluding}
use Rattle.tasks.proofs.Sets.{below_pow}
use Rattle.priority.specs.Fillings.{Filled, LeftOver}
use Rattle.priority.specs.Plans.{FirstYes, IsPlan}
use Rattle.priority.proofs.Filling.{filled_more}
use Rattle.priority.proofs.Planning.{some_member, filled_few, first_alike, filled_plan, plan_same, planned_left, left_same, left_no_order}
use Rattle.priority.proofs.plan.plan.Goals as goal

pub loop-task-preserved : goal.loop-task-preserved
loop-task-preserved g c =
    let says = g.T.Test.says in
    let t = c.args.table.now in
    let a = c.tasks-left.result.bits in
    let u = c.loop-task.upwards in
    let k = c.in-Some.task in
    let l = c.loop-task.left.bits in
    let P = FirstYes (says c.args.test.now) t in
    let v = c.in-Some.ensures.value in
    let f = filled_more P a u l k c.loop-task.invariant.0 v.0 (first_alike (says c.loop-task.test) (says c.args.test.now) c.loop-task.invariant.1 t (excluding l k) k v.1) in
    let few = filled_few P t a c.tasks-left.ensures (u ++ k ∷ []) (excluding l k) f in
    let room = c.push.ensures.room ∙ lt-ltb (length u) 32 (omega (arith, few, length-append u (k ∷ []))) in
    let pushed = c.push.ensures.pushed ∙ cond-true _ (u ++ k ∷ []) u room in (
      subst (λ xs. Filled P a xs c.without-left.result.bits) (sym pushed) (subst (Filled P a (u ++ k ∷ [])) (sym c.without-left.ensures.bits) f),
      λ s j h. c.lowest.ensures.same s j h ∙ c.loop-task.invariant.1 s j h,
    )

pub returns-then-not-is_empty : goal.returns-then-not-is_empty
returns-then-not-is_empty g c =
    let test = c.args.test.now in
    let says = g.T.Test.says test in
    let t = c.args.table.now in
    let l = c.loop-task.left.bits in
    let raise = g.met.T.Test.raise test in
    let left = planned_left says t c.tasks-left.result.bits c.tasks-left.ensures _ c.loop-task.invariant.1 c.loop-task.upwards l c.loop-task.invariant.0 c.in_default.ensures.value in
    let some = some_member l l (below_pow l) (eqb-false l 0 (sym c.if-not-is_empty.ensures.bits)) in
    let none = left_no_order says t raise l some.0 left some.1 in
    record {
      outcome = (none, some);
      only = λ p i. none p i.0 (λ xs ys k e. (i.1 xs ys k e).0);
      left = left;
      always_left = λ m v. left_same says t raise m l v left;
      same = λ s j h. c.lowest.ensures.same s j h ∙ c.loop-task.invariant.1 s j h;
    }

pub returns : goal.returns
returns g c =
    let test = c.args.test.now in
    let says = g.T.Test.says test in
    let t = c.args.table.now in
    let a = c.tasks-left.result.bits in
    let l = c.loop-task.left.bits in
    let us = c.loop-task.upwards in
    let raise = g.met.T.Test.raise test in
    let none = eqb-true l 0 (sym c.if-not-is_empty.ensures.bits) in
    let full = subst (Filled (FirstYes says t) a us) none c.loop-task.invariant.0 in
    let left = subst (LeftOver says t) none (planned_left says t a c.tasks-left.ensures _ c.loop-task.invariant.1 us l c.loop-task.invariant.0 c.in_default.ensures.value) in
    record {
      outcome = subst (IsPlan says t) (sym c.reversed.ensures.numbers) (filled_plan says t a c.tasks-left.ensures us full);
      only = λ p i. c.reversed.ensures.numbers ∙ plan_same says t a c.tasks-left.ensures us p full i;
      left = left;
      always_left = λ m v. left_same says t raise m 0 v left;
      same = λ s j h. c.lowest.ensures.same s j h ∙ c.loop-task.invariant.1 s j h;
    }
