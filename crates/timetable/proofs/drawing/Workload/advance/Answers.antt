use Rattle.std.proofs.Common.{◌≡◌, ◌+◌, ◌-◌, ◌<◌, ◌≤◌, true, List, [], ◌∷◌, Some, None, Option, length, refl, sym, ap, ◌∙◌, arith, rules}
use Rattle.queue.proofs.Laws.{entries_length}
use Rattle.queue.specs.Queues.{entries, front}
use Rattle.schedule.specs.Jobs.{no_finish, last_release}
use Rattle.timetable.specs.declared.entry.Coming.{Coming}
use Rattle.std.proofs.lemmas.List.{get_or-set_other}
use Rattle.std.proofs.lemmas.Bool.{lt-ltb}
use Rattle.timetable.proofs.Events.{ended, interrupted, at_front, next_release, next_waiting}
use Rattle.timetable.proofs.drawing.Workload.advance.Goals as goal
use Rattle.timetable.proofs.drawing.Workload.advance.Goals.{In-Some}

none_waits : {X : Type 0} → (xs : List X) → None ≡ front xs → length xs ≡ 0
none_waits [] e = refl
none_waits (x ∷ xs) e = cc

pub returns-in_default-clause-less : goal.returns-in_default-clause-less
returns-in_default-clause-less c = from c.first.result refl where
  from : (o : Option Coming) → c.first.result ≡ o → last_release - c.map_or.result + length (entries c.take_first.new.self) < last_release - c.args.time + length (entries c.args.waiting.now)
  from (Some next) e =
      let f = sym c.first.ensures.front ∙ e in
      let same = ap length (ap entries c.in_default.ensures.rest) in
      let at : c.map_or.result ≡ next.release = search rules in
      let more = at_front (λ x. c.args.time < x.release) (entries c.args.coming.now) next (sym f) c.requires.later in
      let soon = next_release c.args.self.standing.now c.args.self.jobs.now c.args.self.lawful c.args.finishes.now c.args.time (entries c.args.coming.now) (entries c.args.waiting.now) c.requires.reached next (sym f) in
      omega arith
  from None e = absurd (omega (arith, none_waits (entries c.args.coming.now) (sym e ∙ c.first.ensures.front), c.in_default.ensures.len, ap length (ap entries c.in_default.ensures.rest)))

-- the job that runs is one of the list, and it does not run for long
running : (c : In-Some) → (c.in-Some.running.index < length c.args.self.jobs.now) × (1 ≤ c.in-Some.running.left) × (c.args.time + c.in-Some.running.left ≤ 5097000000)
running c = next_waiting c.args.self.standing.now c.args.self.jobs.now c.args.self.lawful c.args.finishes.now c.args.time (entries c.args.coming.now) (entries c.args.waiting.now) c.requires.reached (entries c.take_first.new.self) c.in-Some.running c.in-Some.ensures.rest c.args.self.few

pub overflow_add-end : goal.overflow_add-end
overflow_add-end c = omega (arith, running (goal.at.overflow_add-end c).In-Some)

pub offset_bounds-self-running : goal.offset_bounds-self-running
offset_bounds-self-running c = omega (arith, running (goal.at.offset_bounds-self-running c).In-Some)

pub bounds-self-running : goal.bounds-self-running
bounds-self-running c = omega (arith, running (goal.at.bounds-self-running c).In-Some)

pub offset_bounds-finishes-running : goal.offset_bounds-finishes-running
offset_bounds-finishes-running c = omega (arith, running (goal.at.offset_bounds-finishes-running c).In-Some)

pub bounds-finishes-running : goal.bounds-finishes-running
bounds-finishes-running c = omega (arith, running (goal.at.bounds-finishes-running c).In-Some)

pub returns-in-Some-first_before-clause-reached : goal.returns-in-Some-first_before-clause-reached
returns-in-Some-first_before-clause-reached c =
    let w = c.in-Some.running in
    let next = c.in-Some-first_before.next in
    let h = c.in-Some.ensures in
    let g = c.in-Some-first_before.ensures in
    let room : c.insert.result ≡ true = c.insert.ensures.room ∙ lt-ltb _ _ (omega (arith, h.len, h.space.room, entries_length c.args.waiting.now, c.args.waiting.now.room)) in
    let more = at_front (λ x. c.args.time < x.release) (entries c.args.coming.now) next g.0 c.requires.later in
    let short : next.release < c.args.time + w.left = g.1 in
    λ σ sch. interrupted c.args.self.standing.now c.args.self.jobs.now c.args.self.lawful σ sch c.args.finishes.now c.args.time (entries c.args.coming.now) (entries c.args.waiting.now) _ w (c.requires.reached σ sch) h.rest h.first next.release g.2 more (omega arith) _ _ short refl refl refl refl (c.insert.ensures.inserted room)

pub returns-in-Some-first_before-clause-less : goal.returns-in-Some-first_before-clause-less
returns-in-Some-first_before-clause-less c =
    let next = c.in-Some-first_before.next in
    let h = c.in-Some.ensures in
    let g = c.in-Some-first_before.ensures in
    let room : c.insert.result ≡ true = c.insert.ensures.room ∙ lt-ltb _ _ (omega (arith, h.len, h.space.room, entries_length c.args.waiting.now, c.args.waiting.now.room)) in
    let more = at_front (λ x. c.args.time < x.release) (entries c.args.coming.now) next g.0 c.requires.later in
    let soon = next_release c.args.self.standing.now c.args.self.jobs.now c.args.self.lawful c.args.finishes.now c.args.time (entries c.args.coming.now) (entries c.args.waiting.now) c.requires.reached next g.0 in
    omega (arith, h.len, c.insert.ensures.len room)

pub returns-clause-reached : goal.returns-clause-reached
returns-clause-reached c =
    let w = c.in-Some.running in
    let h = c.in-Some.ensures in
    let n = running (goal.at.returns-clause-reached c).In-Some in
    λ σ sch. ended c.args.self.standing.now c.args.self.jobs.now c.args.self.lawful σ sch c.args.finishes.now c.args.time (entries c.args.coming.now) (entries c.args.waiting.now) _ w (c.requires.reached σ sch) h.rest h.first (c.args.time + w.left) c.in_default-first_before.ensures (omega arith) (omega arith) c.finish_at.result refl (omega arith) c.finish_at.ensures.finish c.finish_at.ensures.lateness

pub returns-clause-beyond : goal.returns-clause-beyond
returns-clause-beyond c =
    let n = running (goal.at.returns-clause-beyond c).In-Some in
    λ k l. get_or-set_other c.args.finishes.now c.in-Some.running.index k c.finish_at.result no_finish (omega arith)
