-- The questions of one job, from the row of its task and the jobs listed before it. Assumes nothing.
use Rattle.std.proofs.Common.{◌≡◌, ℕ, ◌<◌, ◌≤◌, min, List, length, get_or, take, is_some, Some, None, Option, sym, ap, ◌∙◌, subst, arith, length-take}
use Rattle.schedule.specs.Jobs.{no_job, job_at, Known, InBounds, Timed, Apart, Spaced}
use Rattle.schedule.specs.declared.job.Job.{Job}
use Rattle.std.proofs.lemmas.List.{get_or-take}
use Rattle.tasks.specs.declared.row.Row.{Row}

module _ (ps : List (Option Row)) (js : List Job) (i : ℕ) (r : Row) (row : get_or ps (job_at js i).task None ≡ Some r) where
  pub known : Known ps (job_at js i)
  known = ap is_some row

  only_row : (s : Row) → get_or ps (job_at js i).task None ≡ Some s → r ≡ s
  only_row s e = cc

  pub timed : InBounds r (job_at js i) → Timed ps (job_at js i)
  timed b s e = subst (λ q. InBounds q (job_at js i)) (only_row s e) b

  -- at least a period from each job of the task listed before it, as the slice of those has them
  abbrev SpacedFrom : List Job → Type 0
  SpacedFrom es = (e : ℕ) → e < length es → (job_at es e).task ≡ (job_at js i).task → Apart r (job_at es e) (job_at js i)

  pub spaced : i ≤ length js → SpacedFrom (take i js) → Spaced ps js i
  spaced l f e s in_e same q =
      let here = get_or-take i js e no_job in_e in
      subst (λ w. Apart w (job_at js e) (job_at js i)) (only_row s q) (subst (λ x. Apart r x (job_at js i)) here (f e (simp length-take (omega arith)) (ap (λ (x : Job). x.task) here ∙ same)))

  pub spaced_from : i ≤ length js → Spaced ps js i → SpacedFrom (take i js)
  spaced_from l f e in_e same =
      let n : length (take i js) ≡ min i (length js) = simp length-take in
      let here = get_or-take i js e no_job (omega arith) in
      subst (λ x. Apart r x (job_at js i)) (sym here) (f e r (omega arith) (ap (λ (x : Job). x.task) (sym here) ∙ same) row)
