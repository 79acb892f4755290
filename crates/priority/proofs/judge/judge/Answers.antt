use Rattle.std.proofs.Common.{◌+◌, get_or, take, drop, sym, refl, ap, ◌∙◌, subst, arith}
use Rattle.std.proofs.lemmas.List.{take_more, length-take-le}
use Rattle.priority.specs.Passing.{Yes, Passes}
use Rattle.priority.proofs.Judging.{each_none, each_more, above_more, at_place}
use Rattle.priority.proofs.judge.judge.Goals as goal

pub loop-i-init : goal.loop-i-init
loop-i-init g c = (c.empty-above.ensures, each_none (Yes (g.T.Test.says c.args.test.now) c.args.table.now), λ t k h. refl)

pub returns-then-not-passes : goal.returns-then-not-passes
returns-then-not-passes g c =
    let says = g.T.Test.says in
    let t = c.args.table.now in
    let o = c.args.order.now in
    let i = c.loop-i.i in
    let inv = c.loop-i.invariant in
    let l = c.loop-i-test.true in
    let k = get_or o i 0 in
    let n = sym (inv.2 t k _) ∙ ap (says c.loop-i.test t k) (sym inv.0) ∙ sym c.if-not-passes.ensures.answer in
    record {
      value = (c.if-not-is_listed_by.ensures.0 refl, (take i o, drop (i + 1) o, k, at_place o i l, ap (λ m. m + 1) (sym (length-take-le i o (omega arith))), inv.1, n));
      same = λ u j h. c.passes.ensures.same u j h ∙ inv.2 u j h;
    }

pub loop-i-preserved : goal.loop-i-preserved
loop-i-preserved g c =
    let says = g.T.Test.says in
    let t = c.args.table.now in
    let o = c.args.order.now in
    let i = c.loop-i.i in
    let inv = c.loop-i.invariant in
    let l = c.loop-i-test.true in
    let k = get_or o i 0 in
    let y = sym (inv.2 t k _) ∙ ap (says c.loop-i.test t k) (sym inv.0) ∙ sym c.if-not-passes.ensures.answer in (
      above_more o t i c.loop-i.above.bits _ l (c.if-not-is_listed_by.ensures.0 refl) inv.0 c.with-above.ensures.bits,
      subst (Passes (says c.args.test.now) t) (sym (take_more o i 0 l)) (each_more (Yes (says c.args.test.now) t) (take i o) k inv.1 y),
      λ u j h. c.passes.ensures.same u j h ∙ inv.2 u j h,
    )
