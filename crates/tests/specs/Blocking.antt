-- A task that moves below takes more off the demand than its section adds. Assumes nothing.
use Rattle.std.specs.Prelude.{◌≡◌, ℕ, zero, suc, ◌+◌, ◌*◌, ◌/◌, ◌%◌, ◌<◌, ◌≤◌, max, Bool, true, false, cond, not, ◌&&◌, ◌||◌, ◌⊎◌, List, ◌∷◌, Some, None, Option, ◌==◌, ◌≢◌, slice_index_or}
use Rattle.std.proofs.Common.{sym, ap, ◌∙◌, subst, inl, inr, arith, le_refl, mul-le-mul_left, mul-one}
use Rattle.std.proofs.lemmas.Bool.{cases_eq, eqb-true, ne_eqb}
use Rattle.tasks.specs.Bounds.{Bounded}
use Rattle.tasks.specs.Sets.{member, excluding, members_from, members}
use Rattle.tasks.specs.declared.row.Row.{Row}
use Rattle.tasks.proofs.Members.{parity, members_odd, members_even}
use Rattle.tasks.proofs.Sets.{member_zero, member_suc, member_excluding, excluding_zero, excluding_suc, and_true}
use Rattle.demand.specs.Demand.{share, interference, demand}
use Rattle.demand.specs.declared.mode.Mode.{Mode}
use Rattle.demand.specs.declared.mode.Mode.TheVariants.{Normal}
use Rattle.demand.proofs.Rounding.{ceil_pos}
use Rattle.tests.specs.Rules.{section_at, section_if_below, blocking}
use Rattle.tests.specs.Places.{largest_one}

-- the shares of a set are the share of one member and those of the others
module _ (m : Mode) (ps : List (Option Row)) (t : ℕ) where
  -- one bit further up
  above : (k n h j : ℕ) → interference m ps (members_from (k + 1) n (h / 2)) t ≡ share m t (slice_index_or ps (k + 1 + j) None) + interference m ps (members_from (k + 1) n (excluding (h / 2) j)) t
      → (h % 2 ≡ 1) ⊎ (h % 2 ≡ 0) → interference m ps (members_from k (suc n) h) t ≡ share m t (slice_index_or ps (k + suc j) None) + interference m ps (members_from k (suc n) (excluding h (suc j))) t
  above k n h j r (inl e) =
      let g = excluding (h / 2) j in
      let half : (g * 2 + h % 2) / 2 ≡ g = omega arith in
      let low : (g * 2 + h % 2) % 2 ≡ 1 = omega arith in
      let a = ap (λ js. interference m ps js t) (members_odd k n h e) in
      let b = ap (λ js. interference m ps js t) (ap (members_from k (suc n)) (excluding_suc h j) ∙ members_odd k n (g * 2 + h % 2) low ∙ ap (λ x. k ∷ members_from (k + 1) n x) half) in
      let c : share m t (slice_index_or ps (k + suc j) None) ≡ share m t (slice_index_or ps (k + 1 + j) None) = ap (λ i. share m t (slice_index_or ps i None)) (omega arith) in
      omega (arith, a, b, c, r)
  above k n h j r (inr e) =
      let g = excluding (h / 2) j in
      let half : (g * 2 + h % 2) / 2 ≡ g = omega arith in
      let low : (g * 2 + h % 2) % 2 ≡ 0 = omega arith in
      let a = ap (λ js. interference m ps js t) (members_even k n h e) in
      let b = ap (λ js. interference m ps js t) (ap (members_from k (suc n)) (excluding_suc h j) ∙ members_even k n (g * 2 + h % 2) low ∙ ap (members_from (k + 1) n) half) in
      let c : share m t (slice_index_or ps (k + suc j) None) ≡ share m t (slice_index_or ps (k + 1 + j) None) = ap (λ i. share m t (slice_index_or ps i None)) (omega arith) in
      omega (arith, a, b, c, r)

  taken : (k n h j : ℕ) → j < n → member h j ≡ true → interference m ps (members_from k n h) t ≡ share m t (slice_index_or ps (k + j) None) + interference m ps (members_from k n (excluding h j)) t
  taken k zero h j l y = absurd (omega arith)
  taken k (suc n) h zero l y =
      let odd = eqb-true (h % 2) 1 (sym (member_zero h) ∙ y) in
      let rest : (h / 2 * 2 + 0) / 2 ≡ h / 2 = omega arith in
      let a = ap (λ js. interference m ps js t) (members_odd k n h odd) in
      let b = ap (λ js. interference m ps js t) (ap (members_from k (suc n)) (excluding_zero h) ∙ members_even k n (h / 2 * 2 + 0) (omega arith) ∙ ap (members_from (k + 1) n) rest) in
      let c : share m t (slice_index_or ps (k + 0) None) ≡ share m t (slice_index_or ps k None) = ap (λ i. share m t (slice_index_or ps i None)) (omega arith) in
      omega (arith, a, b, c)
  taken k (suc n) h (suc j) l y = above k n h j (taken (k + 1) n (h / 2) j (omega arith) (sym (member_suc h j) ∙ y)) (parity h)

  pub without_one : (h j : ℕ) → j < 32 → member h j ≡ true → interference m ps (members h) t ≡ share m t (slice_index_or ps j None) + interference m ps (members (excluding h j)) t
  without_one h j l y = taken 0 32 h j l y ∙ ap (λ i. share m t (slice_index_or ps i None) + interference m ps (members (excluding h j)) t) (omega arith)

-- a task asks for its normal time at least
share_least : (r : Row) (t : ℕ) → Bounded r → 1 ≤ t → r.normal ≤ share Normal t (Some r)
share_least r t b l = omega (arith, mul-le-mul_left r.normal (ceil_pos r.period t (omega arith) l), mul-one r.normal)

-- what another task below may hold up is the same
pub other_below : (ps : List (Option Row)) (k h j i : ℕ) → (i ≢ j) → section_if_below ps k (excluding h j) i ≡ section_if_below ps k h i
other_below ps k h j i n = ap (λ b. cond (i == k || b) 0 (section_at (slice_index_or ps i None))) (member_excluding h j i ∙ ap (λ b. member h i && not b) (ne_eqb i j n) ∙ and_true (member h i))

at_most : (b : Bool) (s : ℕ) → cond b 0 s ≤ s
at_most true s = omega arith
at_most false s = le_refl s

-- moving one task below adds its section at most
pub blocking_one : (ps : List (Option Row)) (k h j s : ℕ) → section_at (slice_index_or ps j None) ≤ s → blocking ps k (excluding h j) ≤ blocking ps k h + s
blocking_one ps k h j s l = largest_one 32 (section_if_below ps k (excluding h j)) (section_if_below ps k h) s by_task where
  by_task : (i : ℕ) → section_if_below ps k (excluding h j) i ≤ max (section_if_below ps k h i) s
  by_task i = elim (cases_eq i j) [
    | inl same ↦ omega (arith, at_most (i == k || member (excluding h j) i) (section_at (slice_index_or ps i None)), ap (λ n. section_at (slice_index_or ps n None)) same)
    | inr other ↦ omega (arith, other_below ps k h j i other)
  ]

less : (c i i' share n s b b' : ℕ) → i ≡ share + i' → n ≤ share → s ≤ n → b' ≤ b + s → c + i' + b' ≤ c + i + b
less c i i' share n s b b' e f g h = omega arith

-- a task above asks for more than its section
pub raise_asks_less : (ps : List (Option Row)) (r s : Row) (k h j t : ℕ) → j < 32 → slice_index_or ps j None ≡ Some s → Bounded s → member h j ≡ true → 1 ≤ t
    → demand Normal ps r (excluding h j) t + blocking ps k (excluding h j) ≤ demand Normal ps r h t + blocking ps k h
raise_asks_less ps r s k h j t l e b y p =
    less r.normal (interference Normal ps (members h) t) (interference Normal ps (members (excluding h j)) t) (share Normal t (slice_index_or ps j None)) s.normal s.section (blocking ps k h) (blocking ps k (excluding h j))
    (without_one Normal ps t h j l y) (subst (λ o. s.normal ≤ share Normal t o) (sym e) (share_least s t b p)) b.2 (blocking_one ps k h j s.section (subst (λ o. section_at o ≤ s.section) (sym e) (le_refl _)))
