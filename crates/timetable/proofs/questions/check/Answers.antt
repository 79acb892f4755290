use Rattle.std.proofs.Common.{◌≡◌, ℕ, ◌<◌, false, length, get_or, Some, None, Ok, Err, sym, refl, ap, ◌∙◌, arith, below_more}
use Rattle.std.specs.Result.{result_ok}
use Rattle.schedule.specs.Jobs.{job_at, JobLawful}
use Rattle.std.proofs.lemmas.Bool.{both_ways}
use Rattle.timetable.proofs.Asked.{known, timed, spaced, spaced_from}
use Rattle.timetable.proofs.Exclusive.{only_answer}
use Rattle.timetable.proofs.questions.check.Goals as goal
use Rattle.timetable.specs.Questions.{Accepted, Refused}
use Rattle.timetable.specs.declared.fault.TimetableFault.TheVariants.{Distance}

pub returns-then-not-is_spaced : goal.returns-then-not-is_spaced
returns-then-not-is_spaced c =
    let ps = c.args.standing.now.table.places in
    let js = c.args.jobs.now in
    let i = c.loop-i.i in
    let r = c.in_ok-row.row in
    let row : get_or ps (job_at js i).task None ≡ Some r = sym (c.row.ensures.value ∙ ap (λ t. get_or t.places (job_at js i).task None) c.table.ensures) ∙ c.ok_or.ensures.ok_part ∙ ap result_ok c.in_ok-row.was in
    let near = c.if-not-is_spaced.ensures.1 in
    let refused : Refused ps js c.args.finishes c.args.coming c.args.waiting (Distance i) = (
      (c.if-not-has_room.ensures.0 refl, c.loop-i-test.true, c.loop-i.invariant),
      known ps js i r row,
      timed ps js i r row (c.if-not-is_in_bounds.ensures.0 refl),
      λ s. both_ways false refl (near (spaced_from ps js i r row c.loop-i.auto.i-end s)),
    ) in
    record { outcome = refused; one_refusal = only_answer ps js c.args.finishes c.args.coming c.args.waiting (Err (Distance i)) refused }

pub loop-i-preserved : goal.loop-i-preserved
loop-i-preserved c =
    let ps = c.args.standing.now.table.places in
    let js = c.args.jobs.now in
    let i = c.loop-i.i in
    let r = c.in_ok-row.row in
    let row : get_or ps (job_at js i).task None ≡ Some r = sym (c.row.ensures.value ∙ ap (λ t. get_or t.places (job_at js i).task None) c.table.ensures) ∙ c.ok_or.ensures.ok_part ∙ ap result_ok c.in_ok-row.was in
    below_more _ _ c.loop-i.invariant (
      known ps js i r row,
      timed ps js i r row (c.if-not-is_in_bounds.ensures.0 refl),
      spaced ps js i r row c.loop-i.auto.i-end (c.if-not-is_spaced.ensures.0 refl),
    )

pub returns : goal.returns
returns c =
    let ps = c.args.standing.now.table.places in
    let js = c.args.jobs.now in
    let lawful : (e : ℕ) → e < length js → JobLawful ps js e = λ e l. c.loop-i.invariant e (omega arith) in
    let accepted : Accepted ps js c.args.finishes c.args.coming c.args.waiting = (c.if-not-has_room.ensures.0 refl, lawful) in
    record { outcome = accepted; one_refusal = only_answer ps js c.args.finishes c.args.coming c.args.waiting (Ok tt) accepted }
