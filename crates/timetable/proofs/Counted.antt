-- Entries that count, and entries that do not. Assumes nothing.
use Rattle.std.proofs.Common.{◌≡◌, ℕ, ◌+◌, ◌<◌, ◌≤◌, true, cond, ◌&&◌, ◌||◌, eqb, ltb, leb, ◌≢◌, List, [], ◌∷◌, sum_by, inl, inr, arith}
use Rattle.std.proofs.lemmas.List.Sums.{sum_by-cons}
use Rattle.std.proofs.lemmas.Bool.{cases_lt}
use Rattle.std.proofs.lemmas.Bool.Decides.{nat_tests}
use Rattle.std.specs.List.{AllByRecursion}
pub use Rattle.tasks.proofs.Few.{at_most_one}
use Rattle.timetable.specs.Drawing.{is_for}

pub is_for_it : (j i : ℕ) → 1 ≤ is_for j i → i ≡ j
is_for_it j i l = grind (arith, nat_tests)

pub for_own : (i : ℕ) → is_for i i ≡ 1
for_own i = grind (arith, nat_tests)

pub for_other : (j i : ℕ) → j ≢ i → is_for j i ≡ 0
for_other j i d = grind (arith, nat_tests)

pub one_more : (j i : ℕ) → is_for j i + cond (ltb j i) 1 0 ≡ cond (ltb j (i + 1)) 1 0
one_more j i = grind (arith, nat_tests)

-- what may precede another stands no later in the order, and among those at one place is released no later
pub not_lower : (p q r s : ℕ) → (ltb p q || (eqb p q && leb r s)) ≡ true → q < p → ⊥
not_lower p q r s e l = grind (arith, nat_tests)

pub not_later : (p q r s : ℕ) → (ltb p q || (eqb p q && leb r s)) ≡ true → p ≡ q → s < r → ⊥
not_later p q r s e l m = grind (arith, nat_tests)

module _ {X : Type 0} where
  pub all_both : (P Q R : X → Type 0) → ((x : X) → P x → Q x → R x) → (xs : List X) → AllByRecursion P xs → AllByRecursion Q xs → AllByRecursion R xs
  all_both P Q R f [] p q = tt
  all_both P Q R f (x ∷ xs) p q = (f x p.0 q.0, all_both P Q R f xs p.1 q.1)

  -- where a sum is not 0, an entry counts
  pub some_counts : (f : X → ℕ) (P : X → Type 0) (xs : List X) → AllByRecursion P xs → 1 ≤ sum_by f xs → (x : X) × P x × (1 ≤ f x)
  some_counts f P [] p l = absurd (omega arith)
  some_counts f P (x ∷ xs) p l = elim (cases_lt 0 (f x)) [
    | inl here ↦ (x, p.0, here)
    | inr not ↦ some_counts f P xs p.1 (omega (arith, sum_by-cons f x xs))
  ]

  -- where it is 0, none does
  pub none_counts : (f : X → ℕ) (xs : List X) → sum_by f xs ≤ 0 → AllByRecursion (λ x. f x ≤ 0) xs
  none_counts f [] l = tt
  none_counts f (x ∷ xs) l = (omega (arith, sum_by-cons f x xs), none_counts f xs (omega (arith, sum_by-cons f x xs)))
