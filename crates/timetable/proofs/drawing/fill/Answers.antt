use Rattle.std.proofs.Common.{◌≡◌, ℕ, ◌+◌, true, cond, ltb, ◌∷◌, length, sum_by, sym, refl, ap, ◌∙◌, subst, arith}
use Rattle.queue.proofs.Laws.{same_space, space_trans}
use Rattle.queue.specs.Queues.{entries}
use Rattle.schedule.specs.Jobs.{job_at}
use Rattle.std.proofs.lemmas.List.Sorted.{length_permutation, sum_by-IsPermutation}
use Rattle.std.proofs.ByRecursion.{all_shuffled}
use Rattle.std.proofs.lemmas.List.Sums.{sum_by-cons}
use Rattle.std.proofs.lemmas.Bool.{lt-ltb, le-ltb, cond-false}
use Rattle.std.specs.List.{AllByRecursion}
use Rattle.timetable.proofs.Counted.{one_more}
use Rattle.timetable.proofs.drawing.fill.Goals as goal
use Rattle.timetable.specs.Drawing.{Comes, is_for}
use Rattle.timetable.specs.declared.entry.Coming.{Coming}

pub loop-i-init : goal.loop-i-init
loop-i-init c = (
  subst (AllByRecursion (Comes c.args.jobs.now 0)) (sym c.requires.empty) tt,
  λ j. ap (sum_by (λ (x : Coming). is_for j x.index)) c.requires.empty ∙ sym (cond-false {A = ℕ} (ltb j 0) 1 0 (le-ltb j 0 (omega arith))),
  ap length c.requires.empty,
  same_space _,
)

pub loop-i-preserved : goal.loop-i-preserved
loop-i-preserved c =
    let inv = c.loop-i.invariant in
    let js = c.args.jobs.now in
    let i = c.loop-i.i in
    let xs = entries c.loop-i.coming in
    let x : Coming = record { release = (job_at js i).release; index = i } in
    let e = c.insert.ensures in
    let room : c.insert.result ≡ true = e.room ∙ lt-ltb _ _ (omega (arith, inv.2, inv.3.room, c.requires.room)) in
    let in' = e.inserted room in (
      all_shuffled (Comes js 0) _ _ in' ((c.loop-i-test.true, refl, omega arith), inv.0),
      λ j. sum_by-IsPermutation (λ (y : Coming). is_for j y.index) (x ∷ xs) _ in' ∙ sum_by-cons (λ (y : Coming). is_for j y.index) x xs ∙ ap (λ n. is_for j i + n) (inv.1 j) ∙ one_more j i,
      omega (arith, length_permutation _ _ in', inv.2),
      space_trans _ _ _ inv.3 e.space,
    )

pub returns : goal.returns
returns c =
    let inv = c.loop-i.invariant in
    let all : c.loop-i.i ≡ length c.args.jobs.now = omega arith in
    record {
      coming = inv.0;
      once = λ j. inv.1 j ∙ ap (λ n. cond {A = ℕ} (ltb j n) 1 0) all;
      len = inv.2 ∙ all;
      space = inv.3;
    }
