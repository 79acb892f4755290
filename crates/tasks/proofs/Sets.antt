-- The laws of sets of tasks as bits: each by halving, for any width. Assumes nothing.
use Rattle.std.proofs.Common.{◌≡◌, ℕ, zero, suc, ◌+◌, ◌-◌, ◌*◌, ◌/◌, ◌%◌, ◌^◌, ◌<◌, ◌≤◌, max, Bool, true, false, not, ◌&&◌, ◌||◌, eqb, sym, refl, ap, ◌∙◌, inl, inr, pow-suc, div-one, one-add, arith}
use lib.Bits.{bit_or, or_step, or_zero_r}
use lib.Dec.{eqb-zero-suc, eqb-suc-zero, eqb-suc-suc}
use Rattle.std.proofs.lemmas.Nat.{shr-shr, one_shl}
use Rattle.std.proofs.lemmas.Bool.{cases_Bool, cases_lt, both_ways, eqb-true, cond-true, cond-false, and_right, or_right}
use Rattle.std.proofs.lemmas.Bool.Decides.{nat_tests}
use Rattle.tasks.specs.Sets.{member, including, excluding}

pub and_true : (x : Bool) → (x && true) ≡ x
and_true true = refl
and_true false = refl

pub or_false : (x : Bool) → (x || false) ≡ x
or_false true = refl
or_false false = refl

-- ---- one bit, by halving

pub halved : (h n : ℕ) → h / 2 ^ suc n ≡ h / 2 / 2 ^ n
halved h n = ap (λ k. h / 2 ^ k) (sym (one-add n)) ∙ sym (shr-shr h 1 n)

pub member_zero : (h : ℕ) → member h 0 ≡ eqb (h % 2) 1
member_zero h = ap (λ x. eqb (x % 2) 1) (div-one h)

pub member_suc : (h n : ℕ) → member h (suc n) ≡ member (h / 2) n
member_suc h n = ap (λ x. eqb (x % 2) 1) (halved h n)

pub member_low : (q r : ℕ) → r < 2 → member (q * 2 + r) 0 ≡ eqb r 1
member_low q r l = member_zero (q * 2 + r) ∙ ap (λ x. eqb x 1) (omega arith)

pub member_high : (q r n : ℕ) → r < 2 → member (q * 2 + r) (suc n) ≡ member q n
member_high q r n l = member_suc (q * 2 + r) n ∙ ap (λ x. member x n) (omega arith)

pub member_none : (n : ℕ) → member 0 n ≡ false
member_none zero = refl
member_none (suc n) = member_suc 0 n ∙ member_none n

-- a set of w bits has no member from w on
pub member_past : (w h n : ℕ) → h < 2 ^ w → w ≤ n → member h n ≡ false
member_past zero h n l m = let z : h ≡ 0 = omega arith in ap (λ x. member x n) z ∙ member_none n
member_past (suc w) h zero l m = absurd (omega arith)
member_past (suc w) h (suc n) l m = member_suc h n ∙ member_past w (h / 2) n (omega (arith, pow-suc 2 w)) (omega arith)

pub member_in : (w h n : ℕ) → h < 2 ^ w → member h n ≡ true → n < w
member_in w h n l e = elim (cases_lt n w) [ inl m ↦ m | inr m ↦ absurd (both_ways (member h n) (member_past w h n l m) e) ]

bits_at : (w a b : ℕ) → a < 2 ^ w → b < 2 ^ w → ((j : ℕ) → member a j ≡ member b j) → a ≡ b
bits_at zero a b l m e = omega arith
bits_at (suc w) a b l m e =
    let high = bits_at w (a / 2) (b / 2) (omega (arith, pow-suc 2 w)) (omega (arith, pow-suc 2 w)) (λ j. sym (member_suc a j) ∙ e (suc j) ∙ member_suc b j) in
    let low : eqb (a % 2) 1 ≡ eqb (b % 2) 1 = sym (member_zero a) ∙ e 0 ∙ member_zero b in
    let same : a % 2 ≡ b % 2 = grind (arith, nat_tests) in
    omega arith

pub below_pow : (w : ℕ) → w < 2 ^ w
below_pow zero = omega arith
below_pow (suc w) = omega (arith, pow-suc 2 w, below_pow w)

-- sets with the same members have the same bits
pub bits_from_members : (a b : ℕ) → ((j : ℕ) → member a j ≡ member b j) → a ≡ b
bits_from_members a b = bits_at (a + b) a b (omega (arith, below_pow (a + b))) (omega (arith, below_pow (a + b)))

-- a member's bit is part of the bits
pub member_le : (h n : ℕ) → member h n ≡ true → 2 ^ n ≤ h
member_le h zero e = let o = eqb-true (h % 2) 1 (sym (member_zero h) ∙ e) in omega arith
member_le h (suc n) e = let r = member_le (h / 2) n (sym (member_suc h n) ∙ e) in omega (arith, pow-suc 2 n)

-- ---- a set without a task

pub excluding_zero : (h : ℕ) → excluding h 0 ≡ h / 2 * 2 + 0
excluding_zero h = let m = member_zero h in grind (arith, nat_tests)

pub excluding_suc : (h n : ℕ) → excluding h (suc n) ≡ excluding (h / 2) n * 2 + h % 2
excluding_suc h n = elim (cases_Bool (member (h / 2) n)) [
  | inl e ↦ let r = member_le (h / 2) n e in cond-true _ _ _ (member_suc h n ∙ e) ∙ omega (arith, pow-suc 2 n, cond-true (member (h / 2) n) (h / 2 - 2 ^ n) (h / 2) e)
  | inr e ↦ cond-false _ _ _ (member_suc h n ∙ e) ∙ omega (arith, cond-false (member (h / 2) n) (h / 2 - 2 ^ n) (h / 2) e)
]

pub member_excluding : (h n j : ℕ) → member (excluding h n) j ≡ (member h j && not (eqb j n))
member_excluding h zero zero = ap (λ x. member x 0) (excluding_zero h) ∙ member_low (h / 2) 0 (omega arith) ∙ sym (and_right (member h 0) false refl)
member_excluding h zero (suc j) =
    ap (λ x. member x (suc j)) (excluding_zero h) ∙ member_high (h / 2) 0 j (omega arith) ∙ sym (member_suc h j) ∙ sym (ap (λ x. member h (suc j) && not x) (eqb-suc-zero j) ∙ and_true (member h (suc j)))
member_excluding h (suc n) zero =
    ap (λ x. member x 0) (excluding_suc h n) ∙ member_low (excluding (h / 2) n) (h % 2) (omega arith) ∙ sym (member_zero h) ∙ sym (ap (λ x. member h 0 && not x) (eqb-zero-suc n) ∙ and_true (member h 0))
member_excluding h (suc n) (suc j) =
    ap (λ x. member x (suc j)) (excluding_suc h n) ∙ member_high (excluding (h / 2) n) (h % 2) j (omega arith) ∙ member_excluding (h / 2) n j
    ∙ ap (λ x. x && not (eqb j n)) (sym (member_suc h j)) ∙ ap (λ x. member h (suc j) && not x) (sym (eqb-suc-suc j n))

-- `h - (1 << n)` at w bits
pub sub_excluding : (w h n : ℕ) → n < w → member h n ≡ true → h - (1 * 2 ^ n) % 2 ^ w ≡ excluding h n
sub_excluding w h n l e = ap (λ x. h - x) (one_shl n w l) ∙ sym (cond-true (member h n) (h - 2 ^ n) h e)

-- ---- a set with a task

pub including_zero : (h : ℕ) → including h 0 ≡ h / 2 * 2 + 1
including_zero h = let m = member_zero h in grind (arith, nat_tests)

pub including_suc : (h n : ℕ) → including h (suc n) ≡ including (h / 2) n * 2 + h % 2
including_suc h n = elim (cases_Bool (member (h / 2) n)) [
  | inl e ↦ cond-true _ _ _ (member_suc h n ∙ e) ∙ omega (arith, cond-true (member (h / 2) n) (h / 2) (h / 2 + 2 ^ n) e)
  | inr e ↦ cond-false _ _ _ (member_suc h n ∙ e) ∙ omega (arith, pow-suc 2 n, cond-false (member (h / 2) n) (h / 2) (h / 2 + 2 ^ n) e)
]

pub member_including : (h n j : ℕ) → member (including h n) j ≡ (member h j || eqb j n)
member_including h zero zero = ap (λ x. member x 0) (including_zero h) ∙ member_low (h / 2) 1 (omega arith) ∙ sym (or_right (member h 0) true refl)
member_including h zero (suc j) =
    ap (λ x. member x (suc j)) (including_zero h) ∙ member_high (h / 2) 1 j (omega arith) ∙ sym (member_suc h j) ∙ sym (ap (λ x. member h (suc j) || x) (eqb-suc-zero j) ∙ or_false (member h (suc j)))
member_including h (suc n) zero =
    ap (λ x. member x 0) (including_suc h n) ∙ member_low (including (h / 2) n) (h % 2) (omega arith) ∙ sym (member_zero h) ∙ sym (ap (λ x. member h 0 || x) (eqb-zero-suc n) ∙ or_false (member h 0))
member_including h (suc n) (suc j) =
    ap (λ x. member x (suc j)) (including_suc h n) ∙ member_high (including (h / 2) n) (h % 2) j (omega arith) ∙ member_including (h / 2) n j
    ∙ ap (λ x. x || eqb j n) (sym (member_suc h j)) ∙ ap (λ x. member h (suc j) || x) (sym (eqb-suc-suc j n))

or_step_including : (h n : ℕ) → bit_or h (2 ^ n) ≡ including h n
or_step_including h zero = or_step h 1 ∙ ap (λ x. x * 2 + max (h % 2) 1) (or_zero_r (h / 2)) ∙ omega (arith, including_zero h)
or_step_including h (suc n) =
    let half : 2 ^ suc n / 2 ≡ 2 ^ n = omega (arith, pow-suc 2 n) in
    let even : 2 ^ suc n % 2 ≡ 0 = omega (arith, pow-suc 2 n) in
    or_step h (2 ^ suc n) ∙ ap (λ x. bit_or (h / 2) x * 2 + max (h % 2) (2 ^ suc n % 2)) half ∙ ap (λ x. x * 2 + max (h % 2) (2 ^ suc n % 2)) (or_step_including (h / 2) n) ∙ omega (arith, including_suc h n)

-- `h | (1 << n)` at w bits
pub or_including : (w h n : ℕ) → n < w → bit_or h ((1 * 2 ^ n) % 2 ^ w) ≡ including h n
or_including w h n l = ap (bit_or h) (one_shl n w l) ∙ or_step_including h n
