-- How many jobs of one task are released in some ticks in a row. Assumes nothing.
use Rattle.std.proofs.Common.{◌≡◌, ℕ, zero, suc, ◌+◌, ◌*◌, ◌<◌, ◌≤◌, Bool, true, cond, ◌&&◌, eqb, ltb, leb, List, length, get_or, Some, None, sym, ap, ◌∙◌, inl, inr, arith}
use Rattle.demand.specs.Demand.{releases}
use Rattle.demand.proofs.Rounding.{ceil_cover}
use Rattle.std.proofs.lemmas.Bool.{cases_eq}
use Rattle.std.proofs.lemmas.Bool.Decides.{nat_tests}
use Rattle.tasks.specs.declared.row.Row.{Row}
use Rattle.tasks.specs.declared.standing.Standing.{Standing}
use Rattle.schedule.specs.Jobs.{job_at, JobsLawful}
use Rattle.schedule.specs.declared.job.Job.{Job}
use Rattle.schedule.proofs.Laws.{apart}
use Rattle.schedule.proofs.Totals.{sum_to, sum_to_le, sum_to_add, sum_to_zero, sum_to_one}

-- the job is of task i, and released at s or later and before e
abbrev pub hits : ℕ → ℕ → ℕ → Job → Bool
hits i s e x = eqb x.task i && (leb s x.release && ltb x.release e)

abbrev pub mark : ℕ → ℕ → ℕ → Job → ℕ
mark i s e x = cond (hits i s e x) 1 0

pub from_hits : (i s e : ℕ) (x : Job) → hits i s e x ≡ true → (x.task ≡ i) × (s ≤ x.release) × (x.release < e)
from_hits i s e x h = grind (arith, nat_tests)

pub hits_from : (i s e : ℕ) (x : Job) → x.task ≡ i → s ≤ x.release → x.release < e → hits i s e x ≡ true
hits_from i s e x a b c = grind (arith, nat_tests)

from_mark : (i s e : ℕ) (x : Job) → 0 < mark i s e x → (x.task ≡ i) × (s ≤ x.release) × (x.release < e)
from_mark i s e x h = grind (arith, nat_tests)

mark_small : (i s e : ℕ) (x : Job) → mark i s e x ≤ 1
mark_small i s e x = grind (arith, nat_tests)

mark_split : (i s m e : ℕ) (x : Job) → mark i s e x ≤ mark i s m x + mark i m e x
mark_split i s m e x = grind (arith, nat_tests)

mark_none : (i s e : ℕ) (x : Job) → e ≤ s → mark i s e x ≤ 0
mark_none i s e x h = grind (arith, nat_tests)

mark_wider : (i s e f : ℕ) (x : Job) → e ≤ f → mark i s e x ≤ mark i s f x
mark_wider i s e f x h = grind (arith, nat_tests)

module _ (st : Standing) (js : List Job) (law : JobsLawful st.table.places js) (i : ℕ) (r : Row) (row : get_or st.table.places i None ≡ Some r) where
  -- how many jobs of task i are released from s on and before e
  abbrev pub count : ℕ → ℕ → ℕ
  count s e = sum_to (λ j. mark i s e (job_at js j)) (length js)

  -- within a period, at most one
  one_release : (s e : ℕ) → e ≤ s + r.period → count s e ≤ 1
  one_release s e short = sum_to_one (λ j. mark i s e (job_at js j)) (length js) (λ j. mark_small i s e (job_at js j)) same
    where
      same : (j l : ℕ) → j < length js → l < length js → 0 < mark i s e (job_at js j) → 0 < mark i s e (job_at js l) → j ≡ l
      same j l in-j in-l hit-j hit-l = elim (cases_eq j l) [
        | inl q ↦ q
        | inr d ↦
            let x = from_mark i s e (job_at js j) hit-j in
            let y = from_mark i s e (job_at js l) hit-l in
            elim (apart st js law r j l in-j in-l d (x.0 ∙ sym y.0) (ap (λ n. get_or st.table.places n None) x.0 ∙ row)) [
              | inl far ↦ absurd (omega arith)
              | inr far ↦ absurd (omega arith)
            ]
      ]

  -- within q periods, at most q
  periods : (s q : ℕ) → count s (s + q * r.period) ≤ q
  periods s zero = sum_to_zero _ (length js) (λ j l. mark_none i s (s + 0 * r.period) (job_at js j) (omega arith))
  periods s (suc q) =
      let m = s + q * r.period in
      let e = s + suc q * r.period in
      let first : ℕ → ℕ = λ j. mark i s m (job_at js j) in
      let last : ℕ → ℕ = λ j. mark i m e (job_at js j) in
      let split = sum_to_le (λ j. mark i s e (job_at js j)) (λ j. first j + last j) (length js) (λ j l. mark_split i s m e (job_at js j)) in
      omega (arith, sum_to_add first last (length js), periods s q, one_release m e (omega arith))

  -- within t ticks, no more than the definition of demand counts
  pub few_releases : (s t : ℕ) → count s (s + t) ≤ releases r.period t
  few_releases s t =
      let q = releases r.period t in
      let e = s + q * r.period in
      let long = st.table.window i r row in
      let wider = sum_to_le (λ j. mark i s (s + t) (job_at js j)) (λ j. mark i s e (job_at js j)) (length js)
      (λ j l. mark_wider i s (s + t) e (job_at js j) (omega (arith, ceil_cover r.period t (omega arith)))) in
      omega (arith, periods s q)
