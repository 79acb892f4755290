-- The last tick before which all released work above task k is done. Assumes nothing.
use Rattle.std.proofs.Common.{◌≡◌, ℕ, zero, suc, ◌<◌, ◌≤◌, ◌⊎◌, List, length, inl, inr, arith}
use Rattle.std.proofs.lemmas.List.{get_or_past}
use Rattle.std.proofs.lemmas.Bool.{cases_eq, cases_lt}
use Rattle.schedule.specs.Jobs.{no_job, job_at}
use Rattle.schedule.specs.Schedule.{Schedule, served, Pending, place, Higher}
use Rattle.schedule.specs.declared.job.Job.{Job}
use Rattle.schedule.proofs.Service.{served_mono}

module _ (o : List ℕ) (js : List Job) (σ : Schedule) (k : ℕ) where
  -- job j is not above k, or not released before u, or finished at u
  abbrev pub Done : ℕ → ℕ → Type 0
  Done u j = Higher o (job_at js j).task k → (job_at js j).release < u → (job_at js j).length ≤ served σ j u

  abbrev Late : ℕ → ℕ → Type 0
  Late u j = Higher o (job_at js j).task k × ((job_at js j).release < u) × (served σ j u < (job_at js j).length)

  abbrev pub Quiet : ℕ → Type 0
  Quiet u = (j : ℕ) → Done u j

  done_or_late : (u j : ℕ) → Done u j ⊎ Late u j
  done_or_late u j = elim (cases_lt (place o (job_at js j).task) (place o k)) [
    | inl p ↦ elim (cases_lt (job_at js j).release u) [
      | inl r ↦ elim (cases_lt (served σ j u) (job_at js j).length) [
        | inl w ↦ inr (p, r, w)
        | inr w ↦ inl (λ _ _. w)
      ]
      | inr r ↦ inl (λ _ l. absurd (omega arith))
    ]
    | inr p ↦ inl (λ l _. absurd (omega arith))
  ]

  all_or_late : (u n : ℕ) → ((j : ℕ) → j < n → Done u j) ⊎ ((j : ℕ) × Late u j)
  all_or_late u zero = inl (λ j l. absurd (omega arith))
  all_or_late u (suc n) = elim (all_or_late u n) [
    | inl below ↦ elim (done_or_late u n) [
      | inl d ↦ inl (λ j l. elim (cases_eq j n) [ inl e ↦ rw e d | inr q ↦ below j (omega arith) ])
      | inr late ↦ inr (n, late)
    ]
    | inr late ↦ inr late
  ]

  quiet_or_late : (u : ℕ) → Quiet u ⊎ ((j : ℕ) × Late u j)
  quiet_or_late u = elim (all_or_late u (length js)) [
    | inl all ↦ inl (λ j. elim (cases_lt j (length js)) [
      | inl l ↦ all j l
      | inr l ↦ λ _ _. rw (get_or_past js j no_job l) (omega arith)
    ])
    | inr late ↦ inr late
  ]

  -- from that tick on until r, some job above k is always pending
  pub quiet_start : (r : ℕ) → (s : ℕ) × (s ≤ r) × Quiet s
      × ((u : ℕ) → s ≤ u → u < r → (j : ℕ) × Higher o (job_at js j).task k × Pending js σ j u)
  quiet_start zero = (0, omega arith, (λ j _ l. absurd (omega arith)), (λ u _ l. absurd (omega arith)))
  quiet_start (suc r) = elim (quiet_or_late (suc r)) [
    | inl q ↦ (suc r, omega arith, q, (λ u m l. absurd (omega arith)))
    | inr late ↦
        let before = quiet_start r in (
          before.0,
          omega arith,
          before.2,
          λ u m l. elim (cases_lt u r) [
            | inl below ↦ before.3 u m below
            | inr top ↦
                let e : u ≡ r = omega arith in
                (late.0, late.1.0, rw e (omega arith, omega (arith, served_mono σ late.0 r (suc r) (omega arith))))
          ],
        )
  ]
