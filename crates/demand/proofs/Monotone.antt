-- More time asks for no less; fewer tasks ask for no more. Assumes nothing.
use Rattle.std.proofs.Common.{◌≡◌, ℕ, zero, suc, ◌+◌, ◌/◌, ◌%◌, ◌≤◌, true, List, [], ◌∷◌, get_or, set, Some, None, Option, sym, ap, ◌∙◌, inl, inr, zero-le, le_refl, mul-le-mul_left, arith}
use Rattle.demand.proofs.Rounding.{ceil_mono}
use Rattle.demand.specs.Demand.{cost, share, interference, demand}
use Rattle.demand.specs.declared.mode.Mode.{Mode}
use Rattle.std.proofs.lemmas.Bool.{cases_lt, eqb-true, eq-eqb}
use Rattle.tasks.proofs.Members.{members_odd, members_even}
use Rattle.tasks.proofs.Sets.{member_zero, member_suc}
use Rattle.tasks.specs.Sets.{member, members, members_from}
use Rattle.tasks.specs.declared.row.Row.{Row}

pub share_mono : (m : Mode) (o : Option Row) (s t : ℕ) → s ≤ t → share m s o ≤ share m t o
share_mono m (Some r) s t l = mul-le-mul_left (cost m r) (ceil_mono r.period s t l)
share_mono m None s t l = le_refl 0

pub interference_mono : (m : Mode) (ps : List (Option Row)) (js : List ℕ) (s t : ℕ) → s ≤ t → interference m ps js s ≤ interference m ps js t
interference_mono m ps [] s t l = le_refl 0
interference_mono m ps (j ∷ js) s t l = omega (arith, share_mono m (get_or ps j None) s t l, interference_mono m ps js s t l)

-- ---- fewer tasks above

-- each member of a is one of b
abbrev pub Within : ℕ → ℕ → Type 0
Within a b = (j : ℕ) → member a j ≡ true → member b j ≡ true

interference_from : (m : Mode) (ps : List (Option Row)) (t k n a b : ℕ) → Within a b → interference m ps (members_from k n a) t ≤ interference m ps (members_from k n b) t
unfolding members_from
interference_from m ps t k zero a b w = le_refl 0
interference_from m ps t k (suc n) a b w =
    let rest = interference_from m ps t (k + 1) n (a / 2) (b / 2) (λ j e. sym (member_suc b j) ∙ w (suc j) (member_suc a j ∙ e)) in
    elim (cases_lt 0 (b % 2)) [
      | inl y ↦
          let both = ap (λ js. interference m ps js t) (members_odd k n b (omega arith)) in
          elim (cases_lt 0 (a % 2)) [
            | inl x ↦ omega (arith, ap (λ js. interference m ps js t) (members_odd k n a (omega arith)))
            | inr x ↦ omega (arith, ap (λ js. interference m ps js t) (members_even k n a (omega arith)))
          ]
      | inr y ↦
          let even : a % 2 ≡ 0 = elim (cases_lt 0 (a % 2)) [
            | inl x ↦ absurd (omega (arith, eqb-true (b % 2) 1 (sym (member_zero b) ∙ w 0 (member_zero a ∙ eq-eqb (a % 2) 1 (omega arith)))))
            | inr x ↦ omega arith
          ] in
          omega (arith, ap (λ js. interference m ps js t) (members_even k n a even), ap (λ js. interference m ps js t) (members_even k n b (omega arith)))
    ]

pub demand_within : (m : Mode) (ps : List (Option Row)) (r : Row) (a b t : ℕ) → Within a b → demand m ps r a t ≤ demand m ps r b t
demand_within m ps r a b t w = omega (arith, interference_from m ps t 0 32 a b w)

-- ---- an emptied place

pub share_emptied : (m : Mode) (t : ℕ) (ps : List (Option Row)) (j i : ℕ) → share m t (get_or (set ps j None) i None) ≤ share m t (get_or ps i None)
share_emptied m t [] j i = le_refl _
share_emptied m t (p ∷ ps) zero zero = zero-le
share_emptied m t (p ∷ ps) zero (suc i) = le_refl _
share_emptied m t (p ∷ ps) (suc j) zero = le_refl _
share_emptied m t (p ∷ ps) (suc j) (suc i) = share_emptied m t ps j i

pub interference_emptied : (m : Mode) (ps : List (Option Row)) (j : ℕ) (js : List ℕ) (t : ℕ) → interference m (set ps j None) js t ≤ interference m ps js t
interference_emptied m ps j [] t = le_refl 0
interference_emptied m ps j (i ∷ is) t = omega (arith, share_emptied m t ps j i, interference_emptied m ps j is t)

pub demand_emptied : (m : Mode) (ps : List (Option Row)) (j : ℕ) (r : Row) (h t : ℕ) → demand m (set ps j None) r h t ≤ demand m ps r h t
demand_emptied m ps j r h t = omega (arith, interference_emptied m ps j (members h) t)
