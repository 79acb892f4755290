-- One set within another, by its bits. Assumes nothing.
use Rattle.std.proofs.Common.{◌≡◌, ℕ, zero, suc, ◌/◌, ◌%◌, min, Bool, true, false, ◌&&◌, eqb, sym, refl, ap, ◌∙◌, arith}
use lib.Bits.{bit_and, and_step}
use Rattle.std.proofs.lemmas.Bool.{and_parts}
use Rattle.std.proofs.lemmas.Bool.Decides.{nat_tests}
use Rattle.tasks.specs.Sets.{member}
use Rattle.tasks.proofs.Sets.{member_zero, member_suc, member_low, member_high, bits_from_members}

lower : (x y : ℕ) → eqb (min (x % 2) (y % 2)) 1 ≡ (eqb (x % 2) 1 && eqb (y % 2) 1)
lower x y = grind (arith, nat_tests)

-- what both sets have
pub member_and : (a b n : ℕ) → member (bit_and a b) n ≡ (member a n && member b n)
member_and a b zero = ap (λ x. member x 0) (and_step a b) ∙ member_low (bit_and (a / 2) (b / 2)) (min (a % 2) (b % 2)) (omega arith) ∙ lower a b ∙ sym (ap (λ x. x && member b 0) (member_zero a) ∙ ap (λ x. eqb (a % 2) 1 && x) (member_zero b))
member_and a b (suc n) = ap (λ x. member x (suc n)) (and_step a b) ∙ member_high (bit_and (a / 2) (b / 2)) (min (a % 2) (b % 2)) n (omega arith) ∙ member_and (a / 2) (b / 2) n ∙ sym (ap (λ x. x && member b (suc n)) (member_suc a n) ∙ ap (λ x. member (a / 2) n && x) (member_suc b n))

pub and_subset : (a b : ℕ) → bit_and a b ≡ a → (j : ℕ) → member a j ≡ true → member b j ≡ true
and_subset a b e j y = (and_parts (member a j) (member b j) (sym (member_and a b j) ∙ ap (λ x. member x j) e ∙ y)).1

both : (x y : Bool) → (x ≡ true → y ≡ true) → (x && y) ≡ x
both true y h = h refl
both false y h = refl

pub subset_and : (a b : ℕ) → ((j : ℕ) → member a j ≡ true → member b j ≡ true) → bit_and a b ≡ a
subset_and a b s = bits_from_members (bit_and a b) a (λ j. member_and a b j ∙ both (member a j) (member b j) (s j))
