-- A schedule of a few jobs, checked tick by tick. Assumes nothing.
use Rattle.std.proofs.Common.{◌≡◌, ℕ, zero, suc, ◌<◌, ◌≤◌, Bool, true, not, ◌&&◌, ◌||◌, eqb, ltb, leb, List, length, get_or, Some, None, Option, sym, ap, ◌∙◌, subst, inl, inr, arith}
use borrow.Author.Tests.{clash}
use Rattle.std.proofs.lemmas.List.{get_or_past}
use Rattle.std.proofs.lemmas.Bool.{cases_lt, cases_eq, and_parts, and_from, or_cases, not-true, ltb-true, leb-true, eqb-true, lt-ltb, le-leb}
use Rattle.schedule.specs.Jobs.{job_at}
use Rattle.schedule.specs.Schedule.{Schedule, served, place, Pending, Before, IsSchedule, Ends}
use Rattle.schedule.specs.declared.job.Job.{Job}
use Rattle.schedule.proofs.Service.{served_mono}
use Rattle.schedule.proofs.Laws.{listed_job}

-- a yes to each number below n
abbrev all_below : (ℕ → Bool) → ℕ → Bool
all_below p zero = true
all_below p (suc n) = p n && all_below p n

below : (p : ℕ → Bool) (n k : ℕ) → all_below p n ≡ true → k < n → p k ≡ true
below p zero k e l = absurd (omega arith)
below p (suc n) k e l = elim (cases_eq k n) [ inl q ↦ ap p q ∙ (and_parts (p n) (all_below p n) e).0 | inr q ↦ below p n k (and_parts (p n) (all_below p n) e).1 (omega arith) ]

module _ (o : List ℕ) (js : List Job) (run : List (Option ℕ)) where
  -- the job that runs in each of the first ticks; then none
  abbrev pub planned : Schedule
  planned t = get_or run t None

  abbrev pending : ℕ → ℕ → Bool
  pending j t = leb (job_at js j).release t && ltb (served planned j t) (job_at js j).length

  abbrev before : Job → Job → Bool
  before x y = ltb (place o x.task) (place o y.task) || (eqb x.task y.task && ltb x.release y.release)

  -- what runs in tick t is right as far as job i goes
  abbrev right : Option ℕ → ℕ → ℕ → Bool
  right None t i = not (pending i t)
  right (Some j) t i = ltb j (length js) && (pending j t && (eqb i j || (not (pending i t) || before (job_at js j) (job_at js i))))

  -- each tick of the run is right, and every job has all its ticks in it
  abbrev pub checked : Bool
  checked = all_below (λ t. all_below (λ i. right (get_or run t None) t i) (length js)) (length run) && all_below (λ i. leb (job_at js i).length (served planned i (length run))) (length js)

  module _ (ok : checked ≡ true) (some : 0 < length js) where
    is_pending : (j t : ℕ) → Pending js planned j t → pending j t ≡ true
    is_pending j t p = and_from _ _ (le-leb _ _ p.0) (lt-ltb _ _ p.1)

    over : (j t : ℕ) → length run ≤ t → Pending js planned j t → ⊥
    over j t l p =
        let i = listed_job js j (served planned j t) p.1 in
        let all = leb-true (job_at js j).length (served planned j (length run)) (below (λ i. leb (job_at js i).length (served planned i (length run))) (length js) j (and_parts _ _ ok).1 i) in
        omega (arith, all, p.1, served_mono planned j (length run) t l)

    -- at a tick of the run
    at : (t i : ℕ) → t < length run → i < length js → right (planned t) t i ≡ true
    at t i l m = below (λ i. right (planned t) t i) (length js) i (below (λ t. all_below (λ i. right (planned t) t i) (length js)) (length run) t (and_parts _ _ ok).0 l) m

    -- a job runs only in a tick of the run
    in_run : (t j : ℕ) → planned t ≡ Some j → t < length run
    in_run t j e = elim (cases_lt t (length run)) [ inl l ↦ l | inr l ↦ absurd (grind (arith, sym (get_or_past run t None l) ∙ e)) ]

    running : (t j i : ℕ) → planned t ≡ Some j → i < length js → right (Some j) t i ≡ true
    running t j i e m = subst (λ q. right q t i ≡ true) e (at t i (in_run t j e) m)

    from_pending : (j t : ℕ) → pending j t ≡ true → Pending js planned j t
    from_pending j t e = let p = and_parts _ _ e in (leb-true _ _ p.0, ltb-true _ _ p.1)

    from_before : (x y : Job) → before x y ≡ true → Before o x y
    from_before x y e = elim (or_cases _ _ e) [ inl p ↦ inl (ltb-true _ _ p) | inr p ↦ let q = and_parts _ _ p in inr (eqb-true _ _ q.0, ltb-true _ _ q.1) ]

    pub planned_is_schedule : IsSchedule o js planned
    planned_is_schedule = record {
      listed = λ t j e. ltb-true _ _ (and_parts _ _ (running t j 0 e some)).0;
      pending = λ t j e. from_pending j t (and_parts _ _ (and_parts _ _ (running t j 0 e some)).1).0;
      first = λ t j i e p d. from_before (job_at js j) (job_at js i) (goes t j i d p (and_parts (pending j t) _ (and_parts (ltb j (length js)) _ (running t j i e (listed_job js i (served planned i t) p.1))).1).1);
      idle = λ t i e p. stops t i e p;
    } where
      goes : (t j i : ℕ) → (i ≡ j → ⊥) → Pending js planned i t → (eqb i j || (not (pending i t) || before (job_at js j) (job_at js i))) ≡ true → before (job_at js j) (job_at js i) ≡ true
      goes t j i d p e = elim (or_cases (eqb i j) _ e) [
        | inl q ↦ absurd (d (eqb-true i j q))
        | inr q ↦ elim (or_cases (not (pending i t)) _ q) [ inl n ↦ absurd (clash (sym (not-true (pending i t) n) ∙ is_pending i t p)) | inr b ↦ b ]
      ]

      stops : (t i : ℕ) → planned t ≡ None → Pending js planned i t → ⊥
      stops t i e p = elim (cases_lt t (length run)) [
        | inl l ↦ clash (sym (not-true (pending i t) (subst (λ q. right q t i ≡ true) e (at t i l (listed_job js i (served planned i t) p.1)))) ∙ is_pending i t p)
        | inr l ↦ over i t l p
      ]

-- the tick after the last that a job needs
pub ends_after : (js : List Job) (σ : Schedule) (j f : ℕ) → leb (job_at js j).length (served σ j (suc f)) ≡ true → ltb (served σ j f) (job_at js j).length ≡ true → Ends js σ j (suc f)
ends_after js σ j f a b = (leb-true _ _ a, λ u l. omega (arith, served_mono σ j u f (omega arith), ltb-true (served σ j f) (job_at js j).length b))
