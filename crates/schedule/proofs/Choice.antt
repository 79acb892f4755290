-- The schedule that in each tick runs the first of the pending jobs, and that there is no other. Assumes nothing.
use Rattle.std.proofs.Common.{◌≡◌, ℕ, zero, suc, ◌+◌, ◌<◌, ◌≤◌, ◌≢◌, ◌⊎◌, List, length, Some, None, Option, sym, refl, ap, ◌∙◌, subst, inl, inr, arith}
use Rattle.std.proofs.lemmas.Bool.{cases_eq, cases_lt}
use Rattle.tasks.specs.declared.standing.Standing.{Standing}
use Rattle.schedule.specs.Jobs.{job_at, JobsLawful}
use Rattle.schedule.specs.Schedule.{Schedule, runs, served, Pending, Before, IsSchedule}
use Rattle.schedule.specs.declared.job.Job.{Job}
use Rattle.schedule.proofs.Laws.{listed_job, one_before}

-- ---- which job goes first

pub before_trans : (o : List ℕ) (x y z : Job) → Before o x y → Before o y z → Before o x z
before_trans o x y z (inl p) (inl q) = inl (omega arith)
before_trans o x y z (inl p) (inr q) = inl (rw q.0 at p)
before_trans o x y z (inr p) (inl q) = inl (rw p.0 q)
before_trans o x y z (inr p) (inr q) = inr (p.0 ∙ q.0, omega arith)

pub before_not : (o : List ℕ) (x y : Job) → Before o x y → Before o y x → ⊥
before_not o x y (inl p) (inl q) = omega arith
before_not o x y (inl p) (inr q) = let p' = rw q.0 at p in omega arith
before_not o x y (inr p) (inl q) = let q' = rw p.0 at q in omega arith
before_not o x y (inr p) (inr q) = omega arith

-- job j is released by t and has had less than its length, where f says what each has had
abbrev Waits : List Job → (ℕ → ℕ) → ℕ → ℕ → Type 0
Waits js f t j = ((job_at js j).release ≤ t) × (f j < (job_at js j).length)

waits_or_not : (js : List Job) (f : ℕ → ℕ) (t j : ℕ) → Waits js f t j ⊎ (Waits js f t j → ⊥)
waits_or_not js f t j = elim (cases_lt t (job_at js j).release) [
  | inl p ↦ inr (λ w. absurd (omega arith))
  | inr p ↦ elim (cases_lt (f j) (job_at js j).length) [ inl q ↦ inl (p, q) | inr q ↦ inr (λ w. absurd (omega arith)) ]
]

-- of the jobs below n, q is the waiting one that goes before all other waiting ones
abbrev Best : List ℕ → List Job → (ℕ → ℕ) → ℕ → ℕ → Option ℕ → Type 0
Best o js f t n None = (j : ℕ) → j < n → Waits js f t j → ⊥
Best o js f t n (Some i) = (i < n) × Waits js f t i × ((j : ℕ) → j < n → Waits js f t j → j ≢ i → Before o (job_at js i) (job_at js j))

-- ---- a schedule

module _ (s : Standing) (js : List Job) (law : JobsLawful s.table.places js) where
  abbrev o : List ℕ
  o = s.order

  module _ (f : ℕ → ℕ) (t : ℕ) where
    step : (n : ℕ) → n < length js → Waits js f t n ⊎ (Waits js f t n → ⊥) → (q : Option ℕ) → Best o js f t n q
        → (p : Option ℕ) × Best o js f t (suc n) p
    step n h (inl w) None q = (Some n, (omega arith, w, λ j l v d. absurd (q j (omega arith) v)))
    step n h (inl w) (Some i) q = elim (one_before s js law i n (omega arith) h (omega arith)) [
      | inl first ↦ (Some i, (omega arith, q.1, λ j l v d. elim (cases_eq j n) [ inl e ↦ rw e first | inr m ↦ q.2 j (omega arith) v d ]))
      | inr first ↦ (
        Some n,
        (
          omega arith,
          w,
          λ j l v d. elim (cases_eq j i) [
            | inl e ↦ rw e first
            | inr m ↦ before_trans o (job_at js n) (job_at js i) (job_at js j) first (q.2 j (omega arith) v m)
          ],
        ),
      )
    ]
    step n h (inr w) None q = (None, λ j l v. elim (cases_eq j n) [ inl e ↦ w (rw e at v) | inr m ↦ q j (omega arith) v ])
    step n h (inr w) (Some i) q = (
      Some i,
      (
        omega arith,
        q.1,
        λ j l v d. elim (cases_eq j n) [
          | inl e ↦ absurd (w (rw e at v))
          | inr m ↦ q.2 j (omega arith) v d
        ],
      ),
    )

    best : (n : ℕ) → n ≤ length js → (q : Option ℕ) × Best o js f t n q
    best zero h = (None, λ j l v. absurd (omega arith))
    best (suc n) h = let before = best n (omega arith) in step n h (waits_or_not js f t n) before.0 before.1

  -- what each job has had before t
  so_far : ℕ → ℕ → ℕ
  so_far zero = λ j. 0
  so_far (suc t) = λ j. so_far t j + runs (best (so_far t) t (length js) (omega arith)).0 j

  pub chosen : Schedule
  chosen t = (best (so_far t) t (length js) (omega arith)).0

  is_best : (t : ℕ) → Best o js (so_far t) t (length js) (chosen t)
  unfolding chosen
  is_best t = (best (so_far t) t (length js) (omega arith)).1

  served_so_far : (j t : ℕ) → served chosen j t ≡ so_far t j
  unfolding chosen so_far
  served_so_far j zero = refl
  served_so_far j (suc t) = ap (λ n. n + runs (best (so_far t) t (length js) (omega arith)).0 j) (served_so_far j t)

  waiting : (t j : ℕ) → Pending js chosen j t → Waits js (so_far t) t j
  waiting t j p = (p.0, rw served_so_far at p.1)

  pub chosen_is_schedule : IsSchedule o js chosen
  chosen_is_schedule = record {
    listed = λ t j e. (subst (Best o js (so_far t) t (length js)) e (is_best t)).0;
    pending = λ t j e. let w = (subst (Best o js (so_far t) t (length js)) e (is_best t)).1 in (w.0, rw served_so_far w.1);
    first = λ t j i e p d. (subst (Best o js (so_far t) t (length js)) e (is_best t)).2 i (listed_job js i (served chosen i t) p.1) (waiting t i p) d;
    idle = λ t i e p. subst (Best o js (so_far t) t (length js)) e (is_best t) i (listed_job js i (served chosen i t) p.1) (waiting t i p);
  }

-- ---- the only one

module _ (o : List ℕ) (js : List Job) (σ τ : Schedule) (one : IsSchedule o js σ) (other : IsSchedule o js τ) where
  -- what has had as much in both runs in both
  same_next : (t : ℕ) → ((j : ℕ) → served τ j t ≡ served σ j t) → τ t ≡ σ t
  same_next t e = go (τ t) (σ t) refl refl
    where
      go : (p q : Option ℕ) → τ t ≡ p → σ t ≡ q → τ t ≡ σ t
      go None None a b = a ∙ sym b
      go None (Some j) a b = absurd (other.idle t j a ((one.pending t j b).0, omega (arith, e j, (one.pending t j b).1)))
      go (Some i) None a b = absurd (one.idle t i b ((other.pending t i a).0, omega (arith, e i, (other.pending t i a).1)))
      go (Some i) (Some j) a b = elim (cases_eq i j) [
        | inl same ↦ a ∙ ap Some same ∙ sym b
        | inr d ↦ absurd (
            before_not o (job_at js i) (job_at js j)
            (other.first t i j a ((one.pending t j b).0, omega (arith, e j, (one.pending t j b).1)) (λ q. d (sym q)))
            (one.first t j i b ((other.pending t i a).0, omega (arith, e i, (other.pending t i a).1)) d)
            )
      ]

  pub same_served : (t j : ℕ) → served τ j t ≡ served σ j t
  same_served zero j = refl
  same_served (suc t) j = omega (arith, same_served t j, ap (λ q. runs q j) (same_next t (same_served t)))

  pub same_schedule : (t : ℕ) → τ t ≡ σ t
  same_schedule t = same_next t (same_served t)
