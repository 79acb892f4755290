-- In a schedule every job ends. Assumes nothing.
use Rattle.std.proofs.Common.{◌≡◌, ℕ, zero, suc, ◌+◌, ◌-◌, ◌*◌, ◌<◌, ◌≤◌, List, length, ap, inl, inr, arith}
use Rattle.std.proofs.lemmas.Bool.{cases_lt}
use Rattle.tasks.specs.Bounds.{longest}
use Rattle.tasks.specs.declared.standing.Standing.{Standing}
use Rattle.schedule.specs.Existence.{AllEnd, OneSchedule}
use Rattle.schedule.specs.Jobs.{job_at, last_release, JobsLawful}
use Rattle.schedule.specs.Schedule.{Schedule, served, IsSchedule, Ends}
use Rattle.schedule.specs.declared.job.Job.{Job}
use Rattle.schedule.proofs.Choice.{chosen, chosen_is_schedule, same_schedule}
use Rattle.schedule.proofs.Laws.{row_of}
use Rattle.schedule.proofs.Service.{served_mono, served_more, served_within, runs_before}
use Rattle.schedule.proofs.Totals.{sum_to, sum_to_le, sum_to_lt, sum_to_scale, sum_to_ones}

-- the least tick up to t by which job j has had n ticks
least_tick : (σ : Schedule) (j n t : ℕ) → n ≤ served σ j t → (f : ℕ) × (n ≤ served σ j f) × ((u : ℕ) → u < f → served σ j u < n)
least_tick σ j n zero l = (0, l, λ u m. absurd (omega arith))
least_tick σ j n (suc t) l = elim (cases_lt (served σ j t) n) [
  | inl early ↦ (suc t, l, λ u m. omega (arith, served_mono σ j u t (omega arith)))
  | inr done ↦ least_tick σ j n t done
]

pub ends_one : (js : List Job) (σ : Schedule) (j f g : ℕ) → Ends js σ j f → Ends js σ j g → g ≡ f
ends_one js σ j f g a b = elim (cases_lt f g) [
  | inl l ↦ absurd (omega (arith, b.1 f l))
  | inr l ↦ elim (cases_lt g f) [ inl m ↦ absurd (omega (arith, a.1 g m)) | inr m ↦ omega arith ]
]

-- how long all jobs are together
abbrev pub total : List Job → ℕ
total js = sum_to (λ j. (job_at js j).length) (length js)

-- what all jobs together have had before t
abbrev pub work : List Job → Schedule → ℕ → ℕ
work js σ t = sum_to (λ j. served σ j t) (length js)

-- d is a tick by which all jobs are released
module _ (o : List ℕ) (js : List Job) (σ : Schedule) (sch : IsSchedule o js σ) (d : ℕ) (by-d : (j : ℕ) → j < length js → (job_at js j).release ≤ d) where
  -- from then on, no tick is idle while a job is not finished
  climbs : (j : ℕ) → j < length js → (n : ℕ) → served σ j (n + d) < (job_at js j).length → n ≤ work js σ (n + d)
  climbs j in-j zero wait = omega arith
  climbs j in-j (suc n) wait =
      let t = n + d in
      let e : suc n + d ≡ suc t = omega arith in
      let still : served σ j t < (job_at js j).length = omega (arith, served_mono σ j t (suc n + d) (omega arith)) in
      let r = runs_before o js σ sch t j (omega (arith, by-d j in-j), still) in
      let i = r.0 in
      let more = sum_to_lt (λ l. served σ l t) (λ l. served σ l (suc t)) (length js) i (λ l _. served_mono σ l t (suc t) (omega arith)) (sch.listed t i r.1) (omega (arith, served_more σ t i r.1)) in
      omega (arith, climbs j in-j n still, ap (work js σ) e)

  -- so all are finished when the processor has had the time for them
  finished : (j : ℕ) → j < length js → (job_at js j).length ≤ served σ j (suc (total js) + d)
  finished j in-j = elim (cases_lt (served σ j (suc (total js) + d)) (job_at js j).length) [
    | inl wait ↦ absurd (omega (arith, climbs j in-j (suc (total js)) wait, sum_to_le (λ l. served σ l (suc (total js) + d)) (λ l. (job_at js l).length) (length js) (λ l _. served_within o js σ sch l (suc (total js) + d))))
    | inr done ↦ done
  ]

  all_end : AllEnd js σ
  all_end j in-j =
      let f = least_tick σ j (job_at js j).length (suc (total js) + d) (finished j in-j) in
      (f.0, (f.1, f.2), λ g e. ends_one js σ j f.0 g (f.1, f.2) e)

released : (s : Standing) (js : List Job) → JobsLawful s.table.places js → (j : ℕ) → j < length js → (job_at js j).release ≤ last_release
released s js law j in-j = let row = row_of s.table.places (job_at js j).task (law j in-j).0 in ((law j in-j).1 row.0 row.1).0

-- a job that is not finished at t shows that t is not far: the last release, and then no more ticks than all jobs take
pub not_far : (s : Standing) (js : List Job) → JobsLawful s.table.places js → (σ : Schedule) → IsSchedule s.order js σ → (j t : ℕ) → j < length js → served σ j t < (job_at js j).length → t ≤ total js + last_release
not_far s js law σ sch j t in-j wait = elim (cases_lt t last_release) [
  | inl l ↦ omega arith
  | inr l ↦
      let e : t ≡ (t - last_release) + last_release = omega arith in
      omega (
        arith,
        climbs s.order js σ sch last_release (released s js law) j in-j (t - last_release) (rw e at wait),
        sum_to_le (λ i. served σ i ((t - last_release) + last_release)) (λ i. (job_at js i).length) (length js) (λ i _. served_within s.order js σ sch i ((t - last_release) + last_release)),
      )
]

-- the jobs of a lawful list take no more than the longest time each
pub total_le : (s : Standing) (js : List Job) → JobsLawful s.table.places js → total js ≤ length js * longest
total_le s js law =
    let one = sum_to_le (λ j. (job_at js j).length) (λ j. longest * 1) (length js) (λ j l. let row = row_of s.table.places (job_at js j).task (law j l).0 in omega (arith, (law j l).1 row.0 row.1, s.table.times (job_at js j).task row.0 row.1)) in
    omega (arith, sum_to_scale longest (λ j. 1) (length js), sum_to_ones (length js))

pub one_schedule : OneSchedule
one_schedule s js law =
    let is = chosen_is_schedule s js law in
    (chosen s js law, is, (λ τ other. same_schedule s.order js (chosen s js law) τ is other), all_end s.order js (chosen s js law) is last_release (released s js law))
