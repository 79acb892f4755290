-- What holds of every schedule. Assumes nothing.
use Rattle.std.proofs.Common.{◌≡◌, ℕ, zero, suc, ◌+◌, ◌≤◌, ◌⊎◌, List, Some, None, Option, sym, refl, ap, inl, inr, arith}
use Rattle.std.proofs.lemmas.Bool.{cases_eq, cases_lt}
use Rattle.std.proofs.lemmas.Bool.Decides.{nat_tests}
use Rattle.schedule.specs.Jobs.{job_at}
use Rattle.schedule.specs.Schedule.{Schedule, runs, served, Pending, Higher, Before, IsSchedule}
use Rattle.schedule.specs.declared.job.Job.{Job}

-- whether job j is what runs
pub runs_cases : (o : Option ℕ) (j : ℕ) → ((o ≡ Some j) × (runs o j ≡ 1)) ⊎ (runs o j ≡ 0)
runs_cases None j = inr refl
runs_cases (Some i) j = elim (cases_eq i j) [
  | inl e ↦ inl (ap Some e, grind (arith, nat_tests))
  | inr d ↦ inr (grind (arith, nat_tests))
]

pub served_mono : (σ : Schedule) (j u v : ℕ) → u ≤ v → served σ j u ≤ served σ j v
served_mono σ j u zero h = let e : u ≡ 0 = omega arith in rw e (omega arith)
served_mono σ j u (suc v) h = elim (cases_lt v u) [
  | inl l ↦ let e : u ≡ suc v = omega arith in rw e (omega arith)
  | inr l ↦ omega (arith, served_mono σ j u v l)
]

-- the job that runs
pub served_more : (σ : Schedule) (u j : ℕ) → σ u ≡ Some j → served σ j (suc u) ≡ served σ j u + 1
served_more σ u j e = rw e (grind (arith, nat_tests))

module _ (o : List ℕ) (js : List Job) (σ : Schedule) (sch : IsSchedule o js σ) where
  pub served_within : (j t : ℕ) → served σ j t ≤ (job_at js j).length
  served_within j zero = omega arith
  served_within j (suc t) = elim (runs_cases (σ t) j) [
    | inl r ↦ omega (arith, sch.pending t j r.0, r.1)
    | inr z ↦ omega (arith, served_within j t)
  ]

  -- where a job is pending, it runs, or one that goes before it
  pub runs_before : (u j : ℕ) → Pending js σ j u → (i : ℕ) × (σ u ≡ Some i) × ((i ≡ j) ⊎ Before o (job_at js i) (job_at js j))
  runs_before u j wait = go (σ u) refl
    where
      go : (q : Option ℕ) → σ u ≡ q → (i : ℕ) × (σ u ≡ Some i) × ((i ≡ j) ⊎ Before o (job_at js i) (job_at js j))
      go None e = absurd (sch.idle u j e wait)
      go (Some i) e = (i, e, elim (cases_eq j i) [ inl same ↦ inl (sym same) | inr other ↦ inr (sch.first u i j e wait other) ])

  -- where a job of a task above task k is pending, such a job runs
  pub runs_higher : (k u j : ℕ) → Higher o (job_at js j).task k → Pending js σ j u → (i : ℕ) × (σ u ≡ Some i) × Higher o (job_at js i).task k
  runs_higher k u j high wait =
      let r = runs_before u j wait in (
        r.0,
        r.1,
        elim r.2 [
          | inl same ↦ rw same high
          | inr before ↦ elim before [ inl lower ↦ omega arith | inr own ↦ rw own.0 high ]
        ],
      )
