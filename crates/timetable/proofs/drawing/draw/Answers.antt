use Rattle.std.proofs.Common.{◌≡◌, ℕ, ◌+◌, ◌-◌, ◌≤◌, ltb, List, length, get_or, drop, Ok, sym, ap, ◌∙◌, subst, arith, rules}
use Rattle.std.proofs.lemmas.List.{ext_get_or, length-drop, get_or-drop}
use Rattle.schedule.specs.Jobs.{no_finish}
use Rattle.schedule.specs.declared.job.Finish.{Finish}
use Rattle.queue.proofs.Laws.{given_back, space_trans}
use Rattle.queue.specs.Queues.{entries}
use Rattle.schedule.proofs.Ending.{one_schedule}
use Rattle.std.proofs.lemmas.Bool.{cond-true, lt-ltb}
use Rattle.timetable.proofs.Counted.{at_most_one}
use Rattle.timetable.proofs.Events.{started}
use Rattle.timetable.proofs.Exclusive.{only_answer}
use Rattle.timetable.proofs.drawing.draw.Goals as goal
use Rattle.timetable.specs.Drawing.{Between}
use Rattle.timetable.specs.Ranking.{no_coming, no_waiting}

-- lists as long as each other that agree from a place on
same_beyond : (n : ℕ) (xs ys : List Finish) → length xs ≡ length ys → ((k : ℕ) → n ≤ k → get_or xs k no_finish ≡ get_or ys k no_finish) → drop n xs ≡ drop n ys
same_beyond n xs ys l e =
    ext_get_or no_finish (drop n xs) (drop n ys) (length-drop n xs ∙ ap (λ m. m - n) l ∙ sym (length-drop n ys)) (λ i _. get_or-drop n xs i no_finish ∙ e (n + i) (omega arith) ∙ sym (get_or-drop n ys i no_finish))

pub run-requires : goal.run-requires
run-requires c =
    let s = c.args.standing.now in
    let js = c.args.jobs.now in
    let accepted = c.in_ok-check.ensures.outcome in
    let f = c.fill.ensures in
    let new = c.new-turns.ensures in
    let none = ap length new.empty in
    record {
      finishes = accepted.0.1;
      room = omega (arith, f.len, new.capacity, accepted.0.3);
      reached = λ σ sch. subst (Between s.table.places s.order js σ c.args.finishes.now 0 (entries c.fill.new.coming)) (sym new.empty) (
          started s js accepted.1 σ sch c.args.finishes.now (entries c.fill.new.coming) f.coming (λ j. omega (arith, f.once j, at_most_one (ltb j (length js)))) (λ j l. omega (arith, f.once j, cond-true {A = ℕ} (ltb j (length js)) 1 0 (lt-ltb j (length js) l)))
          );
    }

pub returns : goal.returns
returns c =
    let s = c.args.standing.now in
    let js = c.args.jobs.now in
    let accepted = c.in_ok-check.ensures.outcome in
    let e = c.run.ensures in
    let is = one_schedule s js accepted.1 in
    let first = space_trans _ _ _ c.fill.ensures.space e.coming.1 in
    let second = e.waiting.1 in
    let first-named = first.lent ∙ c.new-releases.ensures.lent in
    let second-named = second.lent ∙ c.new-turns.ensures.lent in
    let releases = given_back _ _ _ no_coming c.new-releases.ensures.capacity (c.new-releases.ensures.blank ∙ search rules) first e.coming.0 in
    let turns = given_back _ _ _ no_waiting c.new-turns.ensures.capacity (c.new-turns.ensures.blank ∙ search rules) second e.waiting.0 in
    record {
      outcome = (accepted, (is.0, is.1, e.finishes is.0 is.1));
      beyond = same_beyond (length js) c.run.new.finishes c.args.finishes.now c.run.auto.finishes e.beyond;
      lists = (search rules, search rules);
      one_refusal = only_answer s.table.places js _ _ _ (Ok tt) accepted;
    }
