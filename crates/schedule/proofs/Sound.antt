-- The analysis of demand is sound. Assumes nothing.
use Rattle.std.proofs.Common.{◌≡◌, ℕ, zero, suc, ◌+◌, ◌*◌, ◌<◌, ◌≤◌, Bool, true, false, cond, ◌&&◌, ◌≢◌, ◌⊎◌, List, [], ◌∷◌, length, get_or, is_some, Some, None, Option, refl, ap, ◌∙◌, inl, inr, mul-le-mul_left, zero-add, arith}
use Rattle.demand.specs.Demand.{cost, share, interference, Serves, search_end}
use Rattle.demand.specs.declared.mode.Mode.{Mode}
use Rattle.std.proofs.lemmas.Bool.{cases_lt, cond-true, lt-ltb, both_ways}
use Rattle.tasks.proofs.Members.{occurs_from}
use Rattle.tasks.specs.Orders.{occurs}
use Rattle.tasks.specs.Sets.{member, members}
use Rattle.tasks.specs.declared.row.Row.{Row}
use Rattle.tasks.specs.declared.standing.Standing.{Standing}
use Rattle.schedule.specs.Analysis.{Keeps, HasAbove, AnalysisSound}
use Rattle.schedule.specs.Jobs.{job_at, due, JobsLawful}
use Rattle.schedule.specs.Schedule.{Schedule, served, Pending, Higher, IsSchedule}
use Rattle.schedule.specs.declared.job.Job.{Job}
use Rattle.tasks.proofs.Places.{on_table}
use Rattle.schedule.proofs.Laws.{apart, within_cost}
use Rattle.schedule.proofs.Totals.{sum_to, sum_to_le, sum_to_lt, sum_to_scale, sum_to_zero, sum_over, sum_over_mono, sum_over_lt}
use Rattle.schedule.proofs.Releases.{hits, mark, from_hits, hits_from, few_releases}
use Rattle.schedule.proofs.Service.{served_mono, served_more, served_within, runs_before, runs_higher}
use Rattle.schedule.proofs.Quiet.{Quiet, quiet_start}

-- what job j has been served before u, if it is of task i and released from s on and before e
abbrev part : List Job → Schedule → ℕ → ℕ → ℕ → ℕ → ℕ → ℕ
part js σ s e u i j = cond (hits i s e (job_at js j)) (served σ j u) 0

-- the sum of that over all jobs
abbrev load : List Job → Schedule → ℕ → ℕ → ℕ → ℕ → ℕ
load js σ s e u i = sum_to (part js σ s e u i) (length js)

-- in tick u runs a, or a job of a task above task k
abbrev Used : List ℕ → List Job → Schedule → ℕ → ℕ → ℕ → Type 0
Used o js σ k a u = (i : ℕ) × (σ u ≡ Some i) × ((i ≡ a) ⊎ Higher o (job_at js i).task k)

if_le : (h : Bool) (x y : ℕ) → x ≤ y → cond h x 0 ≤ cond h y 0
if_le true x y l = l
if_le false x y l = omega arith

if_scaled : (h : Bool) (x c : ℕ) → (h ≡ true → x ≤ c) → cond h x 0 ≤ c * cond h 1 0
if_scaled true x c l = omega (arith, l refl)
if_scaled false x c l = omega arith

if_never : (h : Bool) (x : ℕ) → (h ≡ true → ⊥) → cond h x 0 ≤ 0
if_never true x l = absurd (l refl)
if_never false x l = omega arith

part_mono : (js : List Job) (σ : Schedule) (s e u i j : ℕ) → part js σ s e u i j ≤ part js σ s e (suc u) i j
part_mono js σ s e u i j = if_le (hits i s e (job_at js j)) _ _ (served_mono σ j u (suc u) (omega arith))

load_mono : (js : List Job) (σ : Schedule) (s e u i : ℕ) → load js σ s e u i ≤ load js σ s e (suc u) i
load_mono js σ s e u i = sum_to_le _ _ (length js) (λ j l. part_mono js σ s e u i j)

-- the interference of a list of tasks is the sum of their shares
shares : (m : Mode) (ps : List (Option Row)) (is : List ℕ) (t : ℕ) → sum_over (λ i. share m t (get_or ps i None)) is ≡ interference m ps is t
shares m ps [] t = refl
shares m ps (i ∷ is) t = ap (λ x. share m t (get_or ps i None) + x) (shares m ps is t)

module _ (m : Mode) (st : Standing) (js : List Job) (σ : Schedule) (law : JobsLawful st.table.places js) (keeps : Keeps m st.table.places js) (sch : IsSchedule st.order js σ) where
  abbrev ps : List (Option Row)
  ps = st.table.places

  abbrev o : List ℕ
  o = st.order

  -- a job that runs adds to the load of its task
  load_more : (s e u j : ℕ) → σ u ≡ Some j → s ≤ (job_at js j).release → (job_at js j).release < e
      → load js σ s e u (job_at js j).task < load js σ s e (suc u) (job_at js j).task
  load_more s e u j r from until =
      let i = (job_at js j).task in
      let h = hits_from i s e (job_at js j) refl from until in
      sum_to_lt (part js σ s e u i) (part js σ s e (suc u) i) (length js) j (λ l _. part_mono js σ s e u i l)
      (sch.listed u j r) (rw h (omega (arith, served_more σ u j r)))

  -- the load of a task is at most its share
  load_within : (s t u i : ℕ) → load js σ s (s + t) u i ≤ share m t (get_or ps i None)
  load_within s t u i = go (get_or ps i None) refl
    where
      go : (q : Option Row) → get_or ps i None ≡ q → load js σ s (s + t) u i ≤ share m t q
      go None e = sum_to_zero (part js σ s (s + t) u i) (length js) (λ j l. if_never (hits i s (s + t) (job_at js j)) (served σ j u) (λ h. both_ways _ (ap (λ n. is_some (get_or ps n None)) (from_hits i s (s + t) (job_at js j) h).0 ∙ ap is_some e) (law j l).0))
      go (Some r) e =
          let marks : ℕ → ℕ = λ j. mark i s (s + t) (job_at js j) in
          let own : (j : ℕ) → j < length js → hits i s (s + t) (job_at js j) ≡ true → served σ j u ≤ cost m r =
          λ j l h. omega (arith, served_within o js σ sch j u, within_cost st js law m keeps r j l (ap (λ n. get_or ps n None) (from_hits i s (s + t) (job_at js j) h).0 ∙ e)) in
          let costs = sum_to_le (part js σ s (s + t) u i) (λ j. cost m r * marks j) (length js)
          (λ j l. if_scaled (hits i s (s + t) (job_at js j)) (served σ j u) (cost m r) (own j l)) in
          omega (arith, sum_to_scale (cost m r) marks (length js), mul-le-mul_left (cost m r) (few_releases st js law i r e s t))

  module _ (k h : ℕ) (above : HasAbove o k h) where
    -- a task above k that has a job is one of those that the demand counts
    counted : (i : ℕ) → i < length js → Higher o (job_at js i).task k → 1 ≤ occurs (job_at js i).task (members h)
    counted i in-i high =
        let n = (job_at js i).task in
        let small = on_table st.table n (law i in-i).0 in
        omega (arith, ap (λ x. occurs x (members h)) (zero-add n), occurs_from 0 32 h n, cond-true {A = ℕ} _ 1 0 (ap (λ b. b && member h n) (lt-ltb n 32 small) ∙ above n high))

    module _ (s t a : ℕ) (quiet : Quiet o js σ k s) where
      -- if each tick from s on goes to a or to a job above k, then those ticks are served to a and to jobs above k that are released from s on
      climb : ((u : ℕ) → s ≤ u → u < s + t → Used o js σ k a u)
          → (u : ℕ) → u ≤ s + t → u ≤ s + sum_over (load js σ s (s + t) u) (members h) + served σ a u
      climb busy zero l = omega arith
      climb busy (suc u) h' = elim (cases_lt u s) [
        | inl l ↦ omega arith
        | inr l ↦
            let before = climb busy u (omega arith) in
            let r = busy u l h' in
            elim r.2 [
              | inl own ↦
                  let more = sum_over_mono (load js σ s (s + t) u) (load js σ s (s + t) (suc u)) (members h) (load_mono js σ s (s + t) u) in
                  let one = served_more σ u a (rw own at r.1) in
                  omega arith
              | inr high ↦
                  let i = r.0 in
                  let wait = sch.pending u i r.1 in
                  let fresh : s ≤ (job_at js i).release = elim (cases_lt (job_at js i).release s) [
                    | inl old ↦ absurd (omega (arith, quiet i high old, served_mono σ i s u l))
                    | inr new ↦ new
                  ] in
                  let more = sum_over_lt (load js σ s (s + t) u) (load js σ s (s + t) (suc u)) (members h) (job_at js i).task (load_mono js σ s (s + t) u)
                  (counted i (sch.listed u i r.1) high) (load_more s (s + t) u i r.1 fresh (omega arith)) in
                  omega (arith, served_mono σ a u (suc u) (omega arith))
            ]
      ]

      -- so a is finished t ticks after s
      finished : (r : Row) → get_or ps k None ≡ Some r → a < length js → (job_at js a).task ≡ k → Serves m ps r h t
          → (served σ a (s + t) < (job_at js a).length → (u : ℕ) → s ≤ u → u < s + t → Used o js σ k a u)
          → (job_at js a).length ≤ served σ a (s + t)
      finished r row in-a task-a enough busy = elim (cases_lt (served σ a (s + t)) (job_at js a).length) [
        | inl late ↦
            let long = within_cost st js law m keeps r a in-a (ap (λ n. get_or ps n None) task-a ∙ row) in
            let loads = sum_over_mono (load js σ s (s + t) (s + t)) (λ i. share m t (get_or ps i None)) (members h) (load_within s t (s + t)) in
            absurd (omega (arith, climb (busy late) (s + t) (omega arith), shares m ps (members h) t))
        | inr done ↦ done
      ]

    module _ (r : Row) (t : ℕ) (row : get_or ps k None ≡ Some r) (in-time : t ≤ search_end r) (enough : Serves m ps r h t) where
      -- a job of task k, if those before it were finished when they were due
      next : (a : ℕ) → a < length js → (job_at js a).task ≡ k
          → ((i : ℕ) → i < length js → (job_at js i).task ≡ k → (job_at js i).release < (job_at js a).release → (job_at js i).length ≤ served σ i (due r (job_at js i)))
          → (job_at js a).length ≤ served σ a ((job_at js a).release + t)
      next a in-a task-a earlier =
          let q = quiet_start o js σ k (job_at js a).release in
          let s = q.0 in
          let done = finished s t a q.2 r row in-a task-a enough (busy s q.3) in
          omega (arith, served_mono σ a (s + t) ((job_at js a).release + t) (omega arith))
        where
          -- once released, a waits only for jobs above k
          waits : (u : ℕ) → (job_at js a).release ≤ u → served σ a u < (job_at js a).length → Used o js σ k a u
          waits u from late =
              let b = runs_before o js σ sch u a (from, late) in
              let i = b.0 in (
                i,
                b.1,
                elim b.2 [
                  | inl own ↦ inl own
                  | inr before ↦ elim before [
                    | inl high ↦ inr (rw task-a at high)
                    | inr old ↦
                        let in-i = sch.listed u i b.1 in
                        let wait = sch.pending u i b.1 in
                        let long = st.table.window k r row in
                        let other : i ≢ a = λ same. absurd (omega (arith, ap (λ x. (job_at js x).release) same)) in
                        let done = earlier i in-i (old.0 ∙ task-a) old.1 in
                        elim (apart st js law r i a in-i in-a other old.0 (ap (λ n. get_or ps n None) (old.0 ∙ task-a) ∙ row)) [
                          | inl far ↦ absurd (omega (arith, served_mono σ i (due r (job_at js i)) u (omega arith)))
                          | inr far ↦ absurd (omega arith)
                        ]
                  ]
                ],
              )

          busy : (s : ℕ) → ((u : ℕ) → s ≤ u → u < (job_at js a).release → (j : ℕ) × Higher o (job_at js j).task k × Pending js σ j u)
              → served σ a (s + t) < (job_at js a).length → (u : ℕ) → s ≤ u → u < s + t → Used o js σ k a u
          busy s full late u l n = elim (cases_lt u (job_at js a).release) [
            | inl before ↦
                let p = full u l before in
                let b = runs_higher o js σ sch k u p.0 p.1 p.2 in
                (b.0, b.1, inr b.2)
            | inr after ↦ waits u after (omega (arith, served_mono σ a u (s + t) (omega arith)))
          ]

      -- all jobs of task k that are released before n
      all_before : (n a : ℕ) → a < length js → (job_at js a).task ≡ k → (job_at js a).release < n
          → (job_at js a).length ≤ served σ a ((job_at js a).release + t)
      all_before zero a in-a task-a l = absurd (omega arith)
      all_before (suc n) a in-a task-a l =
          next a in-a task-a (λ i in-i task-i e. omega (arith, all_before n i in-i task-i (omega arith), served_mono σ i ((job_at js i).release + t) (due r (job_at js i)) (omega arith)))

pub analysis_sound : AnalysisSound
analysis_sound m s js σ law keeps sch k r h t row above in-time enough j f in-j task-j ends =
    let x = job_at js j in
    let done = all_before m s js σ law keeps sch k h above r t row in-time enough (suc x.release) j in-j task-j (omega arith) in
    let early : f ≤ x.release + t = elim (cases_lt (x.release + t) f) [
      | inl late ↦ absurd (omega (arith, ends.1 (x.release + t) late))
      | inr soon ↦ soon
    ] in
    (omega arith, omega arith)
