-- A list of jobs has one answer: it is accepted, or refused by one question. Assumes nothing.
use Rattle.std.proofs.Common.{◌≡◌, ℕ, List, Ok, Err, Option, Result, sym, ap, ◌∙◌, subst, inl, inr, arith, MatchResult}
use Rattle.schedule.specs.Jobs.{job_at, Known, Timed, JobLawful}
use Rattle.schedule.specs.declared.job.Job.{Job}
use Rattle.std.proofs.lemmas.Bool.{cases_lt}
use Rattle.tasks.specs.declared.row.Row.{Row}
use Rattle.timetable.specs.Questions.{Room, Accepted, Asked, Refused}
use Rattle.timetable.specs.declared.fault.TimetableFault.{TimetableFault}
use Rattle.timetable.specs.declared.fault.TimetableFault.TheVariants.{Space, Task, Times, Distance}

module _ (ps : List (Option Row)) (js : List Job) (a b c : ℕ) where
  no_room : (n i : ℕ) → Refused ps js a b c (Space n) → Asked ps js a b c i → ⊥
  no_room n i f g = f.1 (subst (λ m. Room m a b c) (sym f.0) g.0)

  -- two jobs that are both the first to be answered no
  same_index : (i j : ℕ) → Asked ps js a b c i → Asked ps js a b c j → (JobLawful ps js i → ⊥) → (JobLawful ps js j → ⊥) → i ≡ j
  same_index i j f g p q = elim (cases_lt i j) [
    | inl l ↦ absurd (p (g.2 i l))
    | inr l ↦ elim (cases_lt j i) [ inl m ↦ absurd (q (f.2 j m)) | inr m ↦ omega arith ]
  ]

  task_times : (i j : ℕ) → Refused ps js a b c (Task i) → Refused ps js a b c (Times j) → ⊥
  task_times i j f g = f.1 (subst (λ k. Known ps (job_at js k)) (sym (same_index i j f.0 g.0 (λ y. f.1 y.0) (λ y. g.2 y.1))) g.1)

  task_distance : (i j : ℕ) → Refused ps js a b c (Task i) → Refused ps js a b c (Distance j) → ⊥
  task_distance i j f g = f.1 (subst (λ k. Known ps (job_at js k)) (sym (same_index i j f.0 g.0 (λ y. f.1 y.0) (λ y. g.3 y.2))) g.1)

  times_distance : (i j : ℕ) → Refused ps js a b c (Times i) → Refused ps js a b c (Distance j) → ⊥
  times_distance i j f g = f.2 (subst (λ k. Timed ps (job_at js k)) (sym (same_index i j f.0 g.0 (λ y. f.2 y.1) (λ y. g.3 y.2))) g.2)

  pub one_refusal : (f g : TimetableFault) → Refused ps js a b c f → Refused ps js a b c g → f ≡ g
  one_refusal (Space n) (Space m) f g = ap Space (f.0 ∙ sym g.0)
  one_refusal (Space n) (Task j) f g = absurd (no_room n j f g.0)
  one_refusal (Space n) (Times j) f g = absurd (no_room n j f g.0)
  one_refusal (Space n) (Distance j) f g = absurd (no_room n j f g.0)
  one_refusal (Task i) (Space m) f g = absurd (no_room m i g f.0)
  one_refusal (Task i) (Task j) f g = ap Task (same_index i j f.0 g.0 (λ y. f.1 y.0) (λ y. g.1 y.0))
  one_refusal (Task i) (Times j) f g = absurd (task_times i j f g)
  one_refusal (Task i) (Distance j) f g = absurd (task_distance i j f g)
  one_refusal (Times i) (Space m) f g = absurd (no_room m i g f.0)
  one_refusal (Times i) (Task j) f g = absurd (task_times j i g f)
  one_refusal (Times i) (Times j) f g = ap Times (same_index i j f.0 g.0 (λ y. f.2 y.1) (λ y. g.2 y.1))
  one_refusal (Times i) (Distance j) f g = absurd (times_distance i j f g)
  one_refusal (Distance i) (Space m) f g = absurd (no_room m i g f.0)
  one_refusal (Distance i) (Task j) f g = absurd (task_distance j i g f)
  one_refusal (Distance i) (Times j) f g = absurd (times_distance j i g f)
  one_refusal (Distance i) (Distance j) f g = ap Distance (same_index i j f.0 g.0 (λ y. f.3 y.2) (λ y. g.3 y.2))

  pub not_both : Accepted ps js a b c → (f : TimetableFault) → Refused ps js a b c f → ⊥
  not_both y (Space n) f = f.1 (subst (λ m. Room m a b c) (sym f.0) y.0)
  not_both y (Task i) f = f.1 (y.1 i f.0.1).0
  not_both y (Times i) f = f.2 (y.1 i f.0.1).1
  not_both y (Distance i) f = f.3 (y.1 i f.0.1).2

  -- so an answer that is right is the only one
  pub only_answer : {T : Type 0} (r : Result T TimetableFault) → MatchResult r (λ _. Accepted ps js a b c) (Refused ps js a b c) → (f : TimetableFault) → Refused ps js a b c f → r ≡ Err f
  only_answer (Ok x) y f g = absurd (not_both y f g)
  only_answer (Err e) y f g = ap Err (one_refusal e f y g)
