-- What a lawful list of jobs and a standing order give to a proof. Assumes nothing.
use Rattle.std.proofs.Common.{◌≡◌, ℕ, suc, ◌<◌, ◌≤◌, true, eqb, ◌≢◌, ◌⊎◌, List, [], ◌∷◌, length, get_or, Some, None, Option, sym, ap, ◌∙◌, inl, inr, arith}
use Rattle.demand.specs.Demand.{cost}
use Rattle.demand.specs.declared.mode.Mode.{Mode}
use Rattle.demand.specs.declared.mode.Mode.TheVariants.{Normal, Abnormal}
use Rattle.std.proofs.lemmas.List.{get_or_past}
use Rattle.std.proofs.lemmas.Bool.{cases_eq, cases_lt, cond-true, cond-false, eq-eqb, ne_eqb}
use Rattle.tasks.specs.Orders.{occurs, in_use}
use Rattle.tasks.specs.declared.row.Row.{Row}
use Rattle.tasks.specs.declared.standing.Standing.{Standing}
use Rattle.tasks.proofs.Members.{occurs_other}
use Rattle.tasks.proofs.Places.{some_row}
use Rattle.schedule.specs.Analysis.{Keeps}
use Rattle.schedule.specs.Jobs.{no_job, job_at, Apart, JobsLawful}
use Rattle.schedule.specs.Schedule.{place, Before}
use Rattle.schedule.specs.declared.job.Job.{Job}

-- ---- places in an order

-- a task that is named stands at its place
pub place_named : (xs : List ℕ) (n : ℕ) → 1 ≤ occurs n xs → get_or xs (place xs n) 0 ≡ n
place_named [] n m = absurd (omega arith)
place_named (x ∷ xs) n m = elim (cases_eq x n) [
  | inl e ↦ ap (λ i. get_or (x ∷ xs) i 0) (cond-true {A = ℕ} (eqb x n) 0 (suc (place xs n)) (eq-eqb x n e)) ∙ e
  | inr d ↦ ap (λ i. get_or (x ∷ xs) i 0) (cond-false {A = ℕ} (eqb x n) 0 (suc (place xs n)) (ne_eqb x n d)) ∙ place_named xs n (omega (arith, occurs_other x n xs d))
]

-- two tasks at one place are the same
pub place_one : (xs : List ℕ) (a b : ℕ) → 1 ≤ occurs a xs → 1 ≤ occurs b xs → place xs a ≡ place xs b → a ≡ b
place_one xs a b p q e = sym (place_named xs a p) ∙ ap (λ i. get_or xs i 0) e ∙ place_named xs b q

-- ---- tasks on a table

-- the row of a task on the table
pub row_of : (ps : List (Option Row)) (n : ℕ) → in_use ps n ≡ true → (r : Row) × (get_or ps n None ≡ Some r)
row_of ps n e = some_row (get_or ps n None) e

-- a task on the table is named by the standing order
pub named : (s : Standing) (n : ℕ) → in_use s.table.places n ≡ true → 1 ≤ occurs n s.order
named s n e = omega (arith, s.named n, cond-true {A = ℕ} (in_use s.table.places n) 1 0 e)

-- ---- lawful jobs

-- an index past the end has a job with nothing to run
pub listed_job : (js : List Job) (j n : ℕ) → n < (job_at js j).length → j < length js
listed_job js j n l = elim (cases_lt j (length js)) [
  | inl m ↦ m
  | inr m ↦ absurd (omega (arith, ap (λ (x : Job). x.length) (get_or_past js j no_job m)))
]

module _ (s : Standing) (js : List Job) (law : JobsLawful s.table.places js) where
  -- two jobs of a task arrive a period apart, in whatever sequence they are listed
  pub apart : (r : Row) (i j : ℕ) → i < length js → j < length js → i ≢ j → (job_at js i).task ≡ (job_at js j).task → get_or s.table.places (job_at js i).task None ≡ Some r
      → Apart r (job_at js i) (job_at js j)
  apart r i j in-i in-j d same e = elim (cases_lt i j) [
    | inl l ↦ (law j in-j).2 i r l same (ap (λ n. get_or s.table.places n None) (sym same) ∙ e)
    | inr l ↦ elim ((law i in-i).2 j r (omega arith) (sym same) e) [ inl p ↦ inr p | inr p ↦ inl p ]
  ]

  -- of two jobs one goes before the other
  pub one_before : (i j : ℕ) → i < length js → j < length js → i ≢ j → Before s.order (job_at js i) (job_at js j) ⊎ Before s.order (job_at js j) (job_at js i)
  one_before i j in-i in-j d =
      let o = s.order in
      let a = (job_at js i).task in
      let b = (job_at js j).task in
      elim (cases_lt (place o a) (place o b)) [
        | inl l ↦ inl (inl l)
        | inr l ↦ elim (cases_lt (place o b) (place o a)) [
          | inl m ↦ inr (inl m)
          | inr m ↦
              let same = place_one o a b (named s a (law i in-i).0) (named s b (law j in-j).0) (omega arith) in
              let row = row_of s.table.places a (law i in-i).0 in
              let long = s.table.window a row.0 row.1 in
              elim (apart row.0 i j in-i in-j d same row.1) [
                | inl p ↦ inl (inr (same, omega arith))
                | inr p ↦ inr (inr (sym same, omega arith))
              ]
        ]
      ]

  -- no job is longer than what its task may cost in the mode
  pub within_cost : (m : Mode) → Keeps m s.table.places js → (r : Row) (j : ℕ) → j < length js → get_or s.table.places (job_at js j).task None ≡ Some r → (job_at js j).length ≤ cost m r
  within_cost Normal keeps r j in-j e = keeps j in-j r e
  within_cost Abnormal keeps r j in-j e = ((law j in-j).1 r e).2
