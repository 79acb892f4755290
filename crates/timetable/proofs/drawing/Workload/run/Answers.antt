use Rattle.std.proofs.Common.{◌+◌, ◌<◌, ◌≤◌, length, sym, refl, ap, ◌∙◌, subst, arith}
use Rattle.queue.proofs.Laws.{space_trans}
use Rattle.queue.specs.Queues.{entries}
use Rattle.std.proofs.lemmas.Bool.{eqb-false}
use Rattle.std.specs.List.{AllByRecursion}
use Rattle.timetable.proofs.Events.{all_come}
use Rattle.timetable.proofs.drawing.Workload.run.Goals as goal
use Rattle.timetable.proofs.drawing.Workload.run.Goals.{then-not-is_empty, else-not-is_empty+then-not-is_empty-2}
use Rattle.timetable.specs.declared.entry.Coming.{Coming}

pub let_in-requires : goal.let_in-requires
let_in-requires c =
    let inv = c.loop-waiting.invariant in
    record {
      coming = all_come c.args.self.standing.now c.args.self.jobs.now c.args.self.lawful c.loop-waiting.finishes c.loop-waiting.time (entries c.loop-waiting.coming) (entries c.loop-waiting.waiting) inv.0;
      room = inv.1;
    }

pub loop-waiting-preserved-then-let_in : goal.loop-waiting-preserved-then-let_in
loop-waiting-preserved-then-let_in c =
    let inv = c.loop-waiting.invariant in
    let h = c.if-let_in.ensures in
    let m = h.moved refl in (
      h.reached c.loop-waiting.finishes inv.0,
      omega (arith, inv.1, h.waiting.room),
      space_trans _ _ _ inv.2 h.coming,
      space_trans _ _ _ inv.3 h.waiting,
      inv.4,
    )

pub advance-time-requires : goal.advance-time-requires
advance-time-requires c =
    let inv = c.loop-waiting.invariant in
    let h = c.if-let_in.ensures in
    let same = h.none refl in
    let cs = entries c.loop-waiting.coming in
    let ws = entries c.loop-waiting.waiting in
    let some : 1 ≤ length cs + length ws = elim c.if-not-is_empty.branch [
      | then-not-is_empty w ↦ let d = eqb-false (length cs) 0 (sym c.is_empty.ensures ∙ w.if-not-is_empty.true) in omega arith
      | else-not-is_empty+then-not-is_empty-2 w ↦ let d = eqb-false (length ws) 0 (sym w.is_empty-else-not-is_empty.ensures ∙ w.if-not-is_empty-2.true) in omega arith
    ] in
    record {
      finishes = omega (arith, c.requires.finishes, c.loop-waiting.auto.finishes);
      reached = h.reached c.loop-waiting.finishes inv.0;
      later = subst (λ q. AllByRecursion (λ (x : Coming). c.loop-waiting.time < x.release) (entries q)) (sym same.0) same.2;
      some = omega (arith, ap (λ q. length (entries q)) same.0, ap (λ q. length (entries q)) same.1);
    }
