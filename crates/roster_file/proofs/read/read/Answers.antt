use Rattle.std.proofs.Common.{◌≡◌, ◌<◌, length, Err, sym, refl, ap, ◌∙◌, arith, eqb-true}
use borrow.Author.Tests.{eqb-false}
use Rattle.std.proofs.lemmas.Result.{err_from_is_err_and}
use Rattle.roster_file.specs.declared.fault.FileFault.TheVariants as fault
use Rattle.roster_file.proofs.Reading.{tasks_refused, order_refused, trailing_refused, whole_file}
use Rattle.roster_file.proofs.Unique.{layout_one, never_both, refused_only}
use Rattle.roster_file.proofs.read.read.Goals as goal

pub returns-in_err-count : goal.returns-in_err-count
returns-in_err-count c =
    let r = c.from_residual in
    let p = err_from_is_err_and r.result r.ensures.1 in
    let only = refused_only c.args.bytes.now c.args.table.now c.args.order.now r.result _ (p.1 ∙ ap Err p.2) c.in_err-count.ensures in
    record { outcome = only.outcome; kept = only.kept; one_layout = only.one_layout; one_refusal = only.one_refusal }

pub returns-in_err-tasks : goal.returns-in_err-tasks
returns-in_err-tasks c =
    let bytes = c.args.bytes.now in
    let r = c.from_residual-in_err-tasks in
    let p = err_from_is_err_and r.result r.ensures.1 in
    let n = c.in_ok-count.ensures in
    let refused = tasks_refused bytes _ _ n.0 n.1 c.in_err-tasks.field-0.0 c.in_err-tasks.ensures in
    let only = refused_only bytes c.args.table.now c.args.order.now r.result _ (p.1 ∙ ap Err p.2) refused in
    record { outcome = only.outcome; kept = only.kept; one_layout = only.one_layout; one_refusal = only.one_refusal }

pub returns-in_err-numbers : goal.returns-in_err-numbers
returns-in_err-numbers c =
    let bytes = c.args.bytes.now in
    let r = c.from_residual-in_err-numbers in
    let p = err_from_is_err_and r.result r.ensures.1 in
    let n = c.in_ok-count.ensures in
    let k = c.in_ok-tasks.ensures in
    let refused = order_refused bytes _ _ n.0 n.1 c.in_ok-tasks.tasks c.section.new.self.rest.now c.section.new.self.at k c.in_err-numbers.field-0.0 c.in_err-numbers.ensures in
    let only = refused_only bytes c.args.table.now c.args.order.now r.result _ (p.1 ∙ ap Err p.2) refused in
    record { outcome = only.outcome; kept = only.kept; one_layout = only.one_layout; one_refusal = only.one_refusal }

pub returns-then-not-is_empty : goal.returns-then-not-is_empty
returns-then-not-is_empty c =
    let bytes = c.args.bytes.now in
    let n = c.in_ok-count.ensures in
    let k = c.in_ok-tasks.ensures in
    let more : 0 < length c.read_order.new.reader.rest.now = omega (arith, eqb-false _ 0 (sym c.is_empty.ensures ∙ c.if-not-is_empty.true)) in
    let refused = trailing_refused bytes _ _ n.0 n.1 c.in_ok-tasks.tasks c.section.new.self.rest.now c.section.new.self.at k c.in_ok-numbers.numbers c.read_order.new.reader.rest.now c.read_order.new.reader.at c.in_ok-numbers.ensures more in
    let only = refused_only bytes c.args.table.now c.args.order.now (Err (fault.Trailing c.read_order.new.reader.at)) _ refl refused in
    record { outcome = only.outcome; kept = only.kept; one_layout = only.one_layout; one_refusal = only.one_refusal }

pub returns : goal.returns
returns c =
    let bytes = c.args.bytes.now in
    let n = c.in_ok-count.ensures in
    let k = c.in_ok-tasks.ensures in
    let ended : length c.read_order.new.reader.rest.now ≡ 0 = eqb-true _ 0 (sym c.is_empty.ensures ∙ c.if-not-is_empty.false) in
    let layout = whole_file bytes _ _ n.0 n.1 c.in_ok-tasks.tasks c.section.new.self.rest.now c.section.new.self.at k c.in_ok-numbers.numbers c.read_order.new.reader.rest.now c.read_order.new.reader.at c.in_ok-numbers.ensures ended in
    record { outcome = layout; kept = tt; one_layout = λ t o l. let same = layout_one bytes _ _ _ _ layout l in (refl, same.0, same.1); one_refusal = λ f a. absurd (never_both bytes _ _ f layout a) }
