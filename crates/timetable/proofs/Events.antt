-- What holds between events holds again after the next one. Assumes nothing.
use Rattle.std.proofs.Common.{◌≡◌, ℕ, ◌+◌, ◌-◌, ◌<◌, ◌≤◌, true, ◌≢◌, List, [], ◌∷◌, length, get_or, set, Some, None, sum_by, Option, sym, ap, ◌∙◌, subst, inl, inr, arith}
use Rattle.queue.specs.Queues.{front}
use Rattle.schedule.proofs.Ending.{not_far, total_le, one_schedule}
use Rattle.schedule.proofs.Laws.{row_of, one_before}
use Rattle.schedule.proofs.Service.{served_mono}
use Rattle.schedule.proofs.Stretch.{none_before, Behind, stretch_own, stretch_other, stretch_ends}
use Rattle.schedule.specs.Jobs.{no_job, no_finish, job_at, lateness, last_release, JobsLawful}
use Rattle.schedule.specs.Schedule.{Schedule, served, place, Before, IsSchedule, Ends}
use Rattle.schedule.specs.declared.job.Finish.{Finish}
use Rattle.schedule.specs.declared.job.Job.{Job}
use Rattle.std.proofs.lemmas.List.{get_or_past, get_or-set_same, get_or-set_other}
use Rattle.std.proofs.lemmas.List.Sorted.{sum_by-IsPermutation}
use Rattle.std.proofs.ByRecursion.{all_shuffled}
use Rattle.std.proofs.lemmas.List.Sums.{sum_by-cons}
use Rattle.std.proofs.lemmas.Bool.{cases_eq, cases_lt}
use Rattle.std.specs.List.Sorted.{IsPermutation}
use Rattle.std.specs.List.{AllByRecursion}
use Rattle.tasks.specs.declared.row.Row.{Row}
use Rattle.tasks.specs.declared.standing.Standing.{Standing}
use Rattle.timetable.proofs.Counted.{is_for_it, for_own, for_other, not_lower, not_later, all_both, some_counts, none_counts}
use Rattle.timetable.specs.Drawing.{FinishOf, Comes, Waits, is_for, tally, Between, Reached}
use Rattle.timetable.specs.Ranking.{by_place}
use Rattle.timetable.specs.declared.entry.Coming.{Coming}
use Rattle.timetable.specs.declared.entry.Waiting.{Waiting}

abbrev comes_for : ℕ → Coming → ℕ
comes_for j c = is_for j c.index

abbrev waits_for : ℕ → Waiting → ℕ
waits_for j w = is_for j w.index

-- w may precede y in the second queue
abbrev pub Ahead : Waiting → Waiting → Type 0
Ahead w y = by_place w y ≡ true

module _ (s : Standing) (js : List Job) (law : JobsLawful s.table.places js) (σ : Schedule) (sch : IsSchedule s.order js σ) where
  abbrev ps : List (Option Row)
  ps = s.table.places

  abbrev o : List ℕ
  o = s.order

  -- ---- a release

  pub let_in : (fs : List Finish) (t : ℕ) (cs cs' : List Coming) (ws ws' : List Waiting) (c : Coming) (w : Waiting) → Between ps o js σ fs t cs ws
      → IsPermutation cs (c ∷ cs') → c.release ≤ t → w.index ≡ c.index → w.place ≡ place o (job_at js c.index).task → w.release ≡ c.release → w.left ≡ (job_at js c.index).length
      → IsPermutation (w ∷ ws) ws' → Between ps o js σ fs t cs' ws'
  let_in fs t cs cs' ws ws' c w b out now' same rank rel left in' =
      let all = all_shuffled (Comes js t) cs (c ∷ cs') out b.coming in
      let i = c.index in
      let row = row_of ps (job_at js i).task (law i all.0.0).0 in
      let bounds = (law i all.0.0).1 row.0 row.1 in
      let fresh = none_before o js σ sch i t (omega (arith, all.0)) in
      let own : Waits o js σ t w = (
        omega (arith, all.0),
        rank ∙ ap (λ n. place o (job_at js n).task) (sym same),
        rel ∙ all.0.1 ∙ ap (λ n. (job_at js n).release) (sym same),
        omega arith,
        omega arith,
        subst (λ n. served σ n t + w.left ≡ (job_at js n).length) (sym same) (omega arith),
      ) in
      let tallies : (j : ℕ) → tally j cs' ws' ≡ tally j cs ws = λ j.
      let p = sum_by-IsPermutation (comes_for j) cs (c ∷ cs') out in
      let q = sum_by-IsPermutation (waits_for j) (w ∷ ws) ws' in' in
      let k = ap (is_for j) same in
      omega (arith, sum_by-cons (comes_for j) c cs', sum_by-cons (waits_for j) w ws) in
      record {
        coming = all.1;
        waiting = all_shuffled (Waits o js σ t) (w ∷ ws) ws' in' (own, b.waiting);
        once = λ j. omega (arith, tallies j, b.once j);
        told = λ j l z. b.told j l (omega (arith, tallies j));
      }

  -- ---- a stretch in which the first of the waiting jobs runs

  -- the first by rank goes before another one
  goes_before : (t : ℕ) (w y : Waiting) → Waits o js σ t w → Waits o js σ t y → Ahead w y → w.index ≢ y.index → Before o (job_at js w.index) (job_at js y.index)
  goes_before t w y a b first d = elim (one_before s js law w.index y.index a.0 b.0 d) [
    | inl before ↦ before
    | inr after ↦ elim after [
      | inl high ↦ absurd (not_lower w.place y.place w.release y.release first (omega (arith, a.1, b.1)))
      | inr own ↦ absurd (not_later w.place y.place w.release y.release first (a.1 ∙ ap (place o) (sym own.0) ∙ sym b.1) (omega (arith, a.2, b.2)))
    ]
  ]

  module _ (fs : List Finish) (t : ℕ) (cs : List Coming) (ws rest : List Waiting) (w : Waiting) (b : Between ps o js σ fs t cs ws)
      (out : IsPermutation ws (w ∷ rest)) (first : AllByRecursion (Ahead w) ws) (e : ℕ) (later : AllByRecursion (λ (c : Coming). e ≤ c.release) cs) (more : t < e) (enough : e ≤ t + w.left) where
    split : Waits o js σ t w × AllByRecursion (Waits o js σ t) rest
    split = all_shuffled (Waits o js σ t) ws (w ∷ rest) out b.waiting

    -- every other job is done, comes later, or goes behind
    behind : (j : ℕ) → j ≢ w.index → Behind o js σ sch w.index t e j
    behind j d = elim (cases_lt j (length js)) [
      | inr past ↦ inl (omega (arith, ap (λ (x : Job). x.length) (get_or_past js j no_job past)))
      | inl in-j ↦ elim (cases_lt 0 (sum_by (comes_for j) cs)) [
        | inl comes ↦
            let c = some_counts (comes_for j) (λ c. Comes js t c × (e ≤ c.release)) cs (all_both (Comes js t) (λ c. e ≤ c.release) (λ c. Comes js t c × (e ≤ c.release)) (λ c x y. (x, y)) cs b.coming later) comes in
            inr (inr (omega (arith, c.1.0, c.1.1, ap (λ n. (job_at js n).release) (is_for_it j c.0.index c.2))))
        | inr none ↦ elim (cases_lt 0 (sum_by (waits_for j) ws)) [
          | inl waits ↦
              let y = some_counts (waits_for j) (λ y. Waits o js σ t y × Ahead w y) ws (all_both (Waits o js σ t) (Ahead w) (λ y. Waits o js σ t y × Ahead w y) (λ y x z. (x, z)) ws b.waiting first) waits in
              let own = is_for_it j y.0.index y.2 in
              inr (inl (subst (λ n. Before o (job_at js w.index) (job_at js n)) own (goes_before t w y.0 split.0 y.1.0 y.1.1 (λ q. d (sym (q ∙ own))))))
          | inr nor ↦
              let f = b.told j in-j (omega arith) in
              inl (omega (arith, f.0.0.0, served_mono σ j (get_or fs j no_finish).finish t f.1))
        ]
      ]
    ]

    released : (job_at js w.index).release ≤ t
    released = omega (arith, split.0.2, split.0.3)

    within : served σ w.index t + (e - t) ≤ (job_at js w.index).length
    within = omega (arith, split.0.5)

    own_served : served σ w.index e ≡ served σ w.index t + (e - t)
    own_served = stretch_own o js σ sch w.index t e released within behind e (omega arith) (omega arith)

    comes_on : AllByRecursion (Comes js e) cs
    comes_on = all_both (Comes js t) (λ c. e ≤ c.release) (Comes js e) (λ c x y. (x.0, x.1, y)) cs b.coming later

    tally_out : (j : ℕ) → tally j cs ws ≡ is_for j w.index + tally j cs rest
    tally_out j = omega (arith, sum_by-IsPermutation (waits_for j) ws (w ∷ rest) out, sum_by-cons (waits_for j) w rest)

    waits_on : AllByRecursion (Waits o js σ e) rest
    waits_on =
        let none = none_counts (waits_for w.index) rest (omega (arith, tally_out w.index, b.once w.index, for_own w.index)) in
        all_both (Waits o js σ t) (λ y. waits_for w.index y ≤ 0) (Waits o js σ e) still rest split.1 none
      where
        still : (y : Waiting) → Waits o js σ t y → waits_for w.index y ≤ 0 → Waits o js σ e y
        still y a z =
            let d : y.index ≢ w.index = λ q. absurd (omega (arith, ap (is_for w.index) q, for_own w.index)) in
            (a.0, a.1, a.2, omega (arith, a.3), a.4, omega (arith, a.5, stretch_other o js σ sch w.index t e released within behind y.index d e (omega arith) (omega arith)))

    -- it has had all its ticks
    pub ended : (f : Finish) → e ≡ t + w.left → w.index < length fs → f.finish ≡ e
        → ((r : Row) → get_or ps (job_at js w.index).task None ≡ Some r → f.lateness ≡ lateness r (job_at js w.index) e)
        → Between ps o js σ (set fs w.index f) e cs rest
    ended f last in-fs end late = record {
      coming = comes_on;
      waiting = waits_on;
      once = λ j. omega (arith, tally_out j, b.once j);
      told = λ j l z. elim (cases_eq j w.index) [
        | inl own ↦
            let here : get_or (set fs w.index f) j no_finish ≡ f = ap (λ n. get_or (set fs w.index f) n no_finish) own ∙ get_or-set_same fs w.index f no_finish in-fs in
            let ends : Ends js σ w.index e = stretch_ends o js σ sch w.index t e released within behind more (omega (arith, split.0.5)) in
            subst (λ g. FinishOf ps js σ j g × (g.finish ≤ e)) (sym here) (
            subst (λ n. FinishOf ps js σ n f × (f.finish ≤ e)) (sym own) (
              (subst (λ n. Ends js σ w.index n) (sym end) ends, λ r q. late r q ∙ ap (lateness r (job_at js w.index)) (sym end)),
              omega arith,
            )
            )
        | inr other ↦
            let kept = get_or-set_other fs w.index j f no_finish other in
            let old = b.told j l (omega (arith, tally_out j, for_other j w.index other)) in
            subst (λ g. FinishOf ps js σ j g × (g.finish ≤ e)) (sym kept) (old.0, omega (arith, old.1))
      ];
    }

    -- it waits again, with what is left of it
    pub interrupted : (v : Waiting) (ws' : List Waiting) → e < t + w.left → v.index ≡ w.index → v.place ≡ w.place → v.release ≡ w.release → v.left ≡ t + w.left - e
        → IsPermutation (v ∷ rest) ws' → Between ps o js σ fs e cs ws'
    interrupted v ws' short same rank rel left in' =
        let a = split.0 in
        let own : Waits o js σ e v = (
          omega (arith, a.0),
          rank ∙ a.1 ∙ ap (λ n. place o (job_at js n).task) (sym same),
          rel ∙ a.2 ∙ ap (λ n. (job_at js n).release) (sym same),
          omega (arith, a.3),
          omega arith,
          subst (λ n. served σ n e + v.left ≡ (job_at js n).length) (sym same) (omega (arith, a.5, own_served)),
        ) in
        let tallies : (j : ℕ) → tally j cs ws' ≡ tally j cs ws = λ j.
        let q = sum_by-IsPermutation (waits_for j) (v ∷ rest) ws' in' in
        let k = ap (is_for j) same in
        omega (arith, tally_out j, sum_by-cons (waits_for j) v rest) in
        record {
          coming = comes_on;
          waiting = all_shuffled (Waits o js σ e) (v ∷ rest) ws' in' (own, waits_on);
          once = λ j. omega (arith, tallies j, b.once j);
          told = λ j l z. let old = b.told j l (omega (arith, tallies j)) in (old.0, omega (arith, old.1));
        }

  -- ---- the start

  pub started : (fs : List Finish) (cs : List Coming) → AllByRecursion (Comes js 0) cs → ((j : ℕ) → sum_by (λ (c : Coming). is_for j c.index) cs ≤ 1) → ((j : ℕ) → j < length js → 1 ≤ sum_by (λ (c : Coming). is_for j c.index) cs)
      → Between ps o js σ fs 0 cs []
  started fs cs all few some = record { coming = all; waiting = tt; once = λ j. omega (arith, few j); told = λ j l z. absurd (omega (arith, some j l)) }

-- what holds of all entries holds of the one at the front
pub at_front : {X : Type 0} (P : X → Type 0) (xs : List X) (x : X) → Some x ≡ front xs → AllByRecursion P xs → P x
at_front P [] x e a = absurd (let z : ◌≡◌ {A = ℕ} 0 1 = cc in omega arith)
at_front P (y ∷ ys) x e a = let same : y ≡ x = cc in subst P same a.0

module _ (s : Standing) (js : List Job) (law : JobsLawful s.table.places js) (fs : List Finish) (t : ℕ) (cs : List Coming) (ws : List Waiting) (b : Reached s js fs t cs ws) where
  pub all_come : AllByRecursion (Comes js t) cs
  all_come = let is = one_schedule s js law in (b is.0 is.1).coming

  -- the next to be released is a job of the list
  pub next_release : (c : Coming) → Some c ≡ front cs → c.release ≤ last_release
  next_release c e =
      let a = at_front (Comes js t) cs c e all_come in
      let row = row_of s.table.places (job_at js c.index).task (law c.index a.0).0 in
      omega (arith, a.1, (law c.index a.0).1 row.0 row.1)

  -- the first to wait is a job of the list, and neither it nor the tick is far from the last release
  pub next_waiting : (rest : List Waiting) (w : Waiting) → IsPermutation ws (w ∷ rest) → length js ≤ 4096 → (w.index < length js) × (1 ≤ w.left) × (t + w.left ≤ 5097000000)
  next_waiting rest w out few =
      let is = one_schedule s js law in
      let σ = is.0 in
      let a = (all_shuffled (Waits s.order js σ t) ws (w ∷ rest) out (b σ is.1).waiting).0 in
      let row = row_of s.table.places (job_at js w.index).task (law w.index a.0).0 in
      let times = s.table.times (job_at js w.index).task row.0 row.1 in
      let far = not_far s js law σ is.1 w.index t a.0 (omega (arith, a.4, a.5)) in
      (a.0, a.4, omega (arith, total_le s js law, a.5, (law w.index a.0).1 row.0 row.1))
