-- A quotient rounded up: how it grows, and its bounds. Assumes nothing.
use Rattle.std.proofs.Common.{◌≡◌, ℕ, zero, suc, ◌+◌, ◌-◌, ◌*◌, ◌/◌, ◌%◌, ◌≤◌, min, ap, ◌∙◌, inl, inr, le_trans, le_of_suc-le-suc, suc-mul, div-lt_iff_lt-mul, mul-le-mul_left, le-div_iff_mul-le, mul-one, div-mul-le_self, arith}
use native.Mathlib.Nat.{div-zero}
use Rattle.std.proofs.lemmas.Nat.{div-mul-add, div-add-mod'}
use Rattle.std.proofs.lemmas.Bool.{cases_lt}
use Rattle.demand.specs.Demand.{ceil_div}

-- as `div_ceil` says it
pub ceil_quotient : (p t : ℕ) → 1 ≤ p → t / p + min 1 (t % p) ≡ ceil_div t p
unfolding ceil_div
ceil_quotient p t h =
    let e = div-add-mod' t p in
    elim (cases_lt 0 (t % p)) [
      | inl l ↦ let w : t + (p - 1) ≡ suc (t / p) * p + (t % p - 1) = omega (arith, suc-mul (t / p) p) in
          omega (arith, ap (λ x. x / p) w ∙ div-mul-add (suc (t / p)) p (t % p - 1) (omega arith))
      | inr l ↦ let w : t + (p - 1) ≡ t / p * p + (p - 1) = omega arith in
          omega (arith, ap (λ x. x / p) w ∙ div-mul-add (t / p) p (p - 1) (omega arith))
    ]

over_mono : (p s t : ℕ) → s ≤ t → s / p ≤ t / p
over_mono zero s t l = omega (arith, div-zero s, div-zero t)
over_mono (suc p) s t l = (le-div_iff_mul-le (omega arith)).1 (le_trans (div-mul-le_self s (suc p)) l)

pub ceil_mono : (p s t : ℕ) → s ≤ t → ceil_div s p ≤ ceil_div t p
unfolding ceil_div
ceil_mono p s t l = over_mono p (s + (p - 1)) (t + (p - 1)) (omega arith)

pub ceil_le : (p t : ℕ) → 1 ≤ p → ceil_div t p ≤ t
unfolding ceil_div
ceil_le p t h = le_of_suc-le-suc ((div-lt_iff_lt-mul h).1 (omega (arith, suc-mul t p, mul-le-mul_left t h, mul-one t)))

-- so many times p cover t
pub ceil_cover : (p t : ℕ) → 1 ≤ p → t ≤ ceil_div t p * p
unfolding ceil_div
ceil_cover p t h = omega arith

-- and no fewer do
pub ceil_least : (p t n : ℕ) → 1 ≤ p → t ≤ n * p → ceil_div t p ≤ n
unfolding ceil_div
ceil_least p t n h l = le_of_suc-le-suc ((div-lt_iff_lt-mul h).1 (omega (arith, suc-mul n p)))

pub ceil_pos : (p t : ℕ) → 1 ≤ p → 1 ≤ t → 1 ≤ ceil_div t p
unfolding ceil_div
ceil_pos p t h l = (le-div_iff_mul-le h).1 (omega arith)
