-- The members of a set as a list: each once, and how the lowest is taken off. Assumes nothing.
use Rattle.std.proofs.Common.{◌≡◌, ℕ, zero, suc, ◌+◌, ◌-◌, ◌*◌, ◌/◌, ◌%◌, ◌^◌, ◌<◌, ◌≤◌, min, true, cond, ◌&&◌, eqb, ltb, ◌⊎◌, List, [], ◌∷◌, length, sym, refl, ap, ◌∙◌, inl, inr, add-zero, pow-suc, zero-add, arith}
use lib.Bits.{bit_and, and_step, and_self}
use lib.Count.{count_trailing_zeros, under, ones, ones_step}
use lib.Dec.{leb-suc-suc}
use Rattle.std.proofs.lemmas.Bool.{cond-true, cond-false, eq-eqb, ne_eqb, lt-ltb, le-ltb, and_left, and_parts, not-true, eqb-true, eqb-false, cases_lt}
use Rattle.tasks.specs.Sets.{member, excluding, members_from}
use Rattle.tasks.specs.Orders.{occurs}
use Rattle.tasks.proofs.Sets.{member_zero, member_suc, excluding_zero, excluding_suc, member_excluding, member_in, member_past}

pub parity : (h : ℕ) → (h % 2 ≡ 1) ⊎ (h % 2 ≡ 0)
parity h = grind arith

-- ---- one more bit

pub members_odd : (k n h : ℕ) → h % 2 ≡ 1 → members_from k (suc n) h ≡ k ∷ members_from (k + 1) n (h / 2)
unfolding members_from
members_odd k n h e = cond-true _ _ _ (eq-eqb (h % 2) 1 e)

pub members_even : (k n h : ℕ) → h % 2 ≡ 0 → members_from k (suc n) h ≡ members_from (k + 1) n (h / 2)
unfolding members_from
members_even k n h e = cond-false _ _ _ (ne_eqb (h % 2) 1 (λ o. omega arith))

pub members_none : (k n : ℕ) → members_from k n 0 ≡ []
unfolding members_from
members_none k zero = refl
members_none k (suc n) = members_even k n 0 refl ∙ members_none (k + 1) n

-- ---- each member once

pub occurs_same : (n : ℕ) (xs : List ℕ) → occurs n (n ∷ xs) ≡ 1 + occurs n xs
occurs_same n xs = ap (λ x. x + occurs n xs) (cond-true {A = ℕ} (eqb n n) 1 0 (eq-eqb n n refl))

pub occurs_other : (x n : ℕ) (xs : List ℕ) → (x ≡ n → ⊥) → occurs n (x ∷ xs) ≡ occurs n xs
occurs_other x n xs e = ap (λ y. y + occurs n xs) (cond-false {A = ℕ} (eqb x n) 1 0 (ne_eqb x n e)) ∙ zero-add (occurs n xs)

pub occurs_below : (k n h j : ℕ) → j < k → occurs j (members_from k n h) ≡ 0
unfolding members_from
occurs_below k zero h j l = refl
occurs_below k (suc n) h j l =
    let r = occurs_below (k + 1) n (h / 2) j (omega arith) in
    elim (parity h) [
      | inl e ↦ ap (occurs j) (members_odd k n h e) ∙ occurs_other k j (members_from (k + 1) n (h / 2)) (λ q. omega arith) ∙ r
      | inr e ↦ ap (occurs j) (members_even k n h e) ∙ r
    ]

pub occurs_from : (k n h j : ℕ) → occurs (k + j) (members_from k n h) ≡ cond (ltb j n && member h j) 1 0
unfolding members_from
occurs_from k zero h j = sym (cond-false {A = ℕ} (ltb j 0 && member h j) 1 0 (and_left (ltb j 0) (member h j) (le-ltb j 0 (omega arith))))
occurs_from k (suc n) h zero =
    let b = ap (λ x. x && member h 0) (lt-ltb 0 (suc n) (omega arith)) ∙ member_zero h in
    ap (λ x. occurs x (members_from k (suc n) h)) (add-zero k)
    ∙ elim (parity h) [
      | inl e ↦ ap (occurs k) (members_odd k n h e) ∙ occurs_same k (members_from (k + 1) n (h / 2)) ∙ ap (λ x. 1 + x) (occurs_below (k + 1) n (h / 2) k (omega arith))
          ∙ sym (cond-true {A = ℕ} _ 1 0 (b ∙ eq-eqb (h % 2) 1 e))
      | inr e ↦ ap (occurs k) (members_even k n h e) ∙ occurs_below (k + 1) n (h / 2) k (omega arith) ∙ sym (cond-false {A = ℕ} _ 1 0 (b ∙ ne_eqb (h % 2) 1 (λ o. omega arith)))
    ]
occurs_from k (suc n) h (suc j) =
    let b : (ltb j n && member (h / 2) j) ≡ (ltb (suc j) (suc n) && member h (suc j)) = ap (λ x. x && member (h / 2) j) (sym (leb-suc-suc (suc j) n)) ∙ ap (λ x. ltb (suc j) (suc n) && x) (sym (member_suc h j)) in
    let r : occurs (k + suc j) (members_from (k + 1) n (h / 2)) ≡ cond (ltb (suc j) (suc n) && member h (suc j)) 1 0 = ap (λ x. occurs x (members_from (k + 1) n (h / 2))) (omega arith) ∙ occurs_from (k + 1) n (h / 2) j ∙ ap (λ x. cond x 1 0) b in
    elim (parity h) [
      | inl e ↦ ap (occurs (k + suc j)) (members_odd k n h e) ∙ occurs_other k (k + suc j) (members_from (k + 1) n (h / 2)) (λ q. omega arith) ∙ r
      | inr e ↦ ap (occurs (k + suc j)) (members_even k n h e) ∙ r
    ]

-- the list names each member once, and nothing else
pub occurs_members : (w h n : ℕ) → h < 2 ^ w → occurs n (members_from 0 w h) ≡ cond (member h n) 1 0
occurs_members w h n l =
    ap (λ x. occurs x (members_from 0 w h)) (sym (zero-add n)) ∙ occurs_from 0 w h n
    ∙ ap (λ x. cond x 1 0) (
    elim (cases_lt n w) [
      | inl m ↦ ap (λ x. x && member h n) (lt-ltb n w m)
      | inr m ↦ and_left (ltb n w) (member h n) (le-ltb n w m) ∙ sym (member_past w h n l m)
    ]
    )

pub length_members : (k n h : ℕ) → h < 2 ^ n → length (members_from k n h) ≡ ones h
unfolding members_from ones
length_members k zero h l = let z : 0 ≡ h = omega arith in ap ones z
length_members k (suc n) h l =
    let r = length_members (k + 1) n (h / 2) (omega (arith, pow-suc 2 n)) in
    let o = ones_step h in
    elim (parity h) [ inl e ↦ ap length (members_odd k n h e) ∙ omega arith | inr e ↦ ap length (members_even k n h e) ∙ omega arith ]

pub length_members_le : (k n h : ℕ) → length (members_from k n h) ≤ n
unfolding members_from
length_members_le k zero h = omega arith
length_members_le k (suc n) h =
    let r = length_members_le (k + 1) n (h / 2) in
    elim (parity h) [ inl e ↦ omega (arith, ap length (members_odd k n h e)) | inr e ↦ omega (arith, ap length (members_even k n h e)) ]

-- ---- the lowest member

-- it is below the width, and the list is this member and then the members of the set without it
abbrev pub Lowest : ℕ → ℕ → ℕ → Type 0
Lowest k n h = (count_trailing_zeros n h < n) × (members_from k n h ≡ (k + count_trailing_zeros n h) ∷ members_from k n (excluding h (count_trailing_zeros n h))) × (bit_and h (h - 1) ≡ excluding h (count_trailing_zeros n h))

and_odd : (h : ℕ) → h % 2 ≡ 1 → bit_and h (h - 1) ≡ h / 2 * 2 + 0
and_odd h e =
    let half : (h - 1) / 2 ≡ h / 2 = omega arith in
    let low : (h - 1) % 2 ≡ 0 = omega arith in
    and_step h (h - 1) ∙ ap (λ x. bit_and (h / 2) x * 2 + min (h % 2) ((h - 1) % 2)) half ∙ ap (λ x. x * 2 + min (h % 2) ((h - 1) % 2)) (and_self (h / 2)) ∙ omega arith

and_even : (h : ℕ) → 0 < h → h % 2 ≡ 0 → bit_and h (h - 1) ≡ bit_and (h / 2) (h / 2 - 1) * 2 + h % 2
and_even h p e =
    let half : (h - 1) / 2 ≡ h / 2 - 1 = omega arith in
    and_step h (h - 1) ∙ ap (λ x. bit_and (h / 2) x * 2 + min (h % 2) ((h - 1) % 2)) half ∙ omega arith

odd : (k n h : ℕ) → h % 2 ≡ 1 → Lowest k (suc n) h
unfolding count_trailing_zeros
odd k n h e =
    let z : count_trailing_zeros (suc n) h ≡ 0 = ap (λ d. under d (count_trailing_zeros n (h / 2))) e in
    let x = excluding_zero h in
    let half : (h / 2 * 2 + 0) / 2 ≡ h / 2 = omega arith in
    let rest : members_from k (suc n) (excluding h 0) ≡ members_from (k + 1) n (h / 2) = ap (members_from k (suc n)) x ∙ members_even k n (h / 2 * 2 + 0) (omega arith) ∙ ap (members_from (k + 1) n) half in
    (omega (arith, z), rw z (members_odd k n h e ∙ ap (λ y. y ∷ members_from (k + 1) n (h / 2)) (sym (add-zero k)) ∙ ap (λ y. (k + 0) ∷ y) (sym rest)), rw z (and_odd h e ∙ sym x))

even : (k n h : ℕ) → 0 < h → h % 2 ≡ 0 → Lowest (k + 1) n (h / 2) → Lowest k (suc n) h
unfolding count_trailing_zeros
even k n h p e r =
    let t = count_trailing_zeros n (h / 2) in
    let z : count_trailing_zeros (suc n) h ≡ suc t = ap (λ d. under d t) e in
    let x = excluding_suc h t in
    let q = excluding (h / 2) t in
    let half : (q * 2 + h % 2) / 2 ≡ q = omega arith in
    let m : k + 1 + t ≡ k + suc t = omega arith in
    let rest : members_from k (suc n) (excluding h (suc t)) ≡ members_from (k + 1) n q = ap (members_from k (suc n)) x ∙ members_even k n (q * 2 + h % 2) (omega arith) ∙ ap (members_from (k + 1) n) half in
    (omega (arith, z, r.0), rw z (members_even k n h e ∙ r.1 ∙ ap (λ y. y ∷ members_from (k + 1) n q) m ∙ ap (λ y. (k + suc t) ∷ y) (sym rest)), rw z (and_even h p e ∙ ap (λ y. y * 2 + h % 2) r.2 ∙ sym x))

pub lowest : (k n h : ℕ) → 0 < h → h < 2 ^ n → Lowest k n h
lowest k zero h p l = absurd (omega arith)
lowest k (suc n) h p l = elim (parity h) [ inl e ↦ odd k n h e | inr e ↦ even k n h p e (lowest (k + 1) n (h / 2) (omega arith) (omega (arith, pow-suc 2 n))) ]

-- the lowest member taken off, as the code does it
pub take_off : (w h : ℕ) → 0 < h → h < 2 ^ w → members_from 0 w h ≡ count_trailing_zeros w h ∷ members_from 0 w (bit_and h (h - 1))
take_off w h p l = let r = lowest 0 w h p l in r.1 ∙ ap (λ x. x ∷ members_from 0 w (excluding h (count_trailing_zeros w h))) (zero-add (count_trailing_zeros w h)) ∙ ap (λ x. count_trailing_zeros w h ∷ members_from 0 w x) (sym r.2)

-- no member stands below the lowest
pub lowest_le : (n h j : ℕ) → member h j ≡ true → j < n → count_trailing_zeros n h ≤ j
unfolding count_trailing_zeros
lowest_le zero h j y l = absurd (omega arith)
lowest_le (suc n) h j y l = elim (parity h) [ inl e ↦ omega (arith, ap (λ d. under d (count_trailing_zeros n (h / 2))) e) | inr e ↦ omega (arith, ap (λ d. under d (count_trailing_zeros n (h / 2))) e, further e j y l (lowest_le n (h / 2))) ] where
  further : h % 2 ≡ 0 → (i : ℕ) → member h i ≡ true → i < suc n → ((m : ℕ) → member (h / 2) m ≡ true → m < n → count_trailing_zeros n (h / 2) ≤ m) → suc (count_trailing_zeros n (h / 2)) ≤ i
  further e zero z k r = absurd (omega (arith, eqb-true (h % 2) 1 (sym (member_zero h) ∙ z)))
  further e (suc i) z k r = omega (arith, r i (sym (member_suc h i) ∙ z) (omega arith))

-- what is left without the lowest stands above it
pub rising : (n h j : ℕ) → h < 2 ^ n → member (excluding h (count_trailing_zeros n h)) j ≡ true → count_trailing_zeros n h < j
rising n h j l y =
    let p = and_parts (member h j) _ (sym (member_excluding h (count_trailing_zeros n h) j) ∙ y) in
    omega (arith, lowest_le n h j p.0 (member_in n h j l p.0), eqb-false j (count_trailing_zeros n h) (not-true _ p.1))
