use Rattle.std.proofs.Common.{◌≡◌, true, ◌∷◌, Some, sym, refl, ap, ◌∙◌, subst, arith, MatchOption}
use Rattle.queue.specs.Queues.{entries}
use Rattle.schedule.specs.Jobs.{job_at}
use Rattle.schedule.specs.Schedule.{place}
use Rattle.std.proofs.lemmas.List.Sorted.{length_permutation}
use Rattle.std.proofs.lemmas.Bool.{lt-ltb}
use Rattle.std.specs.List.Sorted.{IsPermutation}
use Rattle.timetable.proofs.Events.{let_in}
use Rattle.timetable.proofs.drawing.Workload.let_in.Goals as goal

pub returns-clause-reached : goal.returns-clause-reached
returns-clause-reached c =
    let next = c.in-Some.next in
    let cs = entries c.args.coming.now in
    let cs' = entries c.take_first.new.self in
    let same : c.take_first.result ≡ Some next = c.take_first.ensures.front ∙ sym c.in-Some.ensures.front in
    let out : IsPermutation cs (next ∷ cs') = subst (λ q. MatchOption q (c.take_first.new.self ≡ c.args.coming.now) (λ x. IsPermutation cs (x ∷ cs'))) same c.take_first.ensures.rest in
    let p = length_permutation _ _ out in
    let room : c.insert.result ≡ true = c.insert.ensures.room ∙ lt-ltb _ _ (omega (arith, c.requires.room)) in
    let rank = c.place_of.ensures ∙ ap (λ r. place r (job_at c.args.self.jobs.now next.index).task) c.order.ensures in
    λ fs b σ sch. let_in c.args.self.standing.now c.args.self.jobs.now c.args.self.lawful σ sch fs c.args.time cs cs' (entries c.args.waiting.now) _ next _ (b σ sch) out (omega arith) refl rank refl refl (c.insert.ensures.inserted room)
