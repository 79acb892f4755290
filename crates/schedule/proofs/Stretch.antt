-- A schedule between two events: the job that goes first runs until it ends or another one is released. Assumes nothing.
use Rattle.std.proofs.Common.{◌≡◌, ℕ, zero, suc, ◌+◌, ◌-◌, ◌<◌, ◌≤◌, ◌≢◌, ◌⊎◌, List, Some, refl, inl, inr, arith}
use Rattle.std.proofs.lemmas.Bool.{cases_eq, cases_lt}
use Rattle.schedule.specs.Jobs.{job_at}
use Rattle.schedule.specs.Schedule.{Schedule, served, Before, IsSchedule, Ends}
use Rattle.schedule.specs.declared.job.Job.{Job}
use Rattle.schedule.proofs.Choice.{before_not}
use Rattle.schedule.proofs.Service.{runs_cases, served_mono, served_more, runs_before}

-- a tick goes to one job at most
served_other : (σ : Schedule) (u i j : ℕ) → σ u ≡ Some i → j ≢ i → served σ j (suc u) ≡ served σ j u
served_other σ u i j e d = elim (runs_cases (σ u) j) [
  | inl r ↦ absurd (d (let q : Some j ≡ Some i = cc in let n : j ≡ i = cc in n))
  | inr z ↦ omega arith
]

module _ (o : List ℕ) (js : List Job) (σ : Schedule) (sch : IsSchedule o js σ) where
  -- a job has no tick before it is released
  pub none_before : (j t : ℕ) → t ≤ (job_at js j).release → served σ j t ≡ 0
  none_before j zero l = refl
  none_before j (suc t) l = elim (runs_cases (σ t) j) [
    | inl r ↦ absurd (omega (arith, sch.pending t j r.0))
    | inr z ↦ omega (arith, none_before j t (omega arith))
  ]

  -- job j does not run from t on until e before job i: it is done at t, or i goes before it, or it is not released before e
  abbrev pub Behind : ℕ → ℕ → ℕ → ℕ → Type 0
  Behind i t e j = ((job_at js j).length ≤ served σ j t) ⊎ (Before o (job_at js i) (job_at js j) ⊎ (e ≤ (job_at js j).release))

  module _ (i t e : ℕ) (released : (job_at js i).release ≤ t) (enough : served σ i t + (e - t) ≤ (job_at js i).length) (behind : (j : ℕ) → j ≢ i → Behind i t e j) where
    -- in each of these ticks it runs
    runs_it : (u : ℕ) → t ≤ u → u < e → served σ i u ≡ served σ i t + (u - t) → σ u ≡ Some i
    runs_it u l m so =
        let r = runs_before o js σ sch u i (omega arith, omega arith) in
        let k = r.0 in
        let wait = sch.pending u k r.1 in
        elim (cases_eq k i) [
          | inl same ↦ rw same at r.1
          | inr other ↦ elim r.2 [
            | inl same ↦ absurd (other same)
            | inr before ↦ elim (behind k other) [
              | inl done ↦ absurd (omega (arith, served_mono σ k t u l))
              | inr later ↦ elim later [
                | inl after ↦ absurd (before_not o (job_at js i) (job_at js k) after before)
                | inr new ↦ absurd (omega arith)
              ]
            ]
          ]
        ]

    pub stretch_own : (u : ℕ) → t ≤ u → u ≤ e → served σ i u ≡ served σ i t + (u - t)
    stretch_own zero l m = let z : t ≡ 0 = omega arith in rw z (omega arith)
    stretch_own (suc u) l m = elim (cases_lt u t) [
      | inl top ↦ let z : t ≡ suc u = omega arith in rw z (omega arith)
      | inr low ↦ let so = stretch_own u low (omega arith) in omega (arith, served_more σ u i (runs_it u low m so))
    ]

    pub stretch_other : (j : ℕ) → j ≢ i → (u : ℕ) → t ≤ u → u ≤ e → served σ j u ≡ served σ j t
    stretch_other j d zero l m = let z : t ≡ 0 = omega arith in rw z refl
    stretch_other j d (suc u) l m = elim (cases_lt u t) [
      | inl top ↦ let z : t ≡ suc u = omega arith in rw z refl
      | inr low ↦ omega (arith, stretch_other j d u low (omega arith), served_other σ u i j (runs_it u low m (stretch_own u low (omega arith))) d)
    ]

    -- where that is all that was left of it, it ends
    pub stretch_ends : t < e → served σ i t + (e - t) ≡ (job_at js i).length → Ends js σ i e
    stretch_ends l all = (
      omega (arith, stretch_own e (omega arith) (omega arith)),
      λ u m. elim (cases_lt u t) [
        | inl early ↦ omega (arith, served_mono σ i u t (omega arith))
        | inr late ↦ omega (arith, stretch_own u late (omega arith))
      ],
    )
