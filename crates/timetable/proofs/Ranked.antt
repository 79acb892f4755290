-- The place of a task in an order, as the position at which it is found. Assumes nothing.
use Rattle.std.proofs.Common.{◌≡◌, ℕ, suc, ◌+◌, Bool, true, false, cond, not, eqb, ltb, List, [], ◌∷◌, length, unwrap_or, refl, ap, ◌∙◌, inl, inr, arith}
use Rattle.schedule.specs.Schedule.{place}
use Rattle.std.proofs.lemmas.Bool.{cases_lt, cond-true, cond-false, lt-ltb, le-ltb}
use Rattle.std.proofs.lemmas.List.Sums.{prefix_len-le-length}
use Rattle.std.specs.List.{position, position_or_len}

-- how far the walk to it goes
walked : (n : ℕ) (xs : List ℕ) → position_or_len (λ x. eqb x n) xs ≡ place xs n
walked n [] = refl
walked n (x ∷ xs) = turned (eqb x n) _ _ (walked n xs)
  where
    turned : (b : Bool) (k m : ℕ) → k ≡ m → cond (not b) (1 + k) 0 ≡ cond b 0 (suc m)
    turned true k m e = refl
    turned false k m e = omega arith

-- of a task that is not in the order, all stand before it
pub placed : (n : ℕ) (xs : List ℕ) → unwrap_or (position (λ x. eqb x n) xs) (length xs) ≡ place xs n
placed n xs = elim (cases_lt (position_or_len (λ x. eqb x n) xs) (length xs)) [
  | inl l ↦ ap (λ o. unwrap_or o (length xs)) (cond-true (ltb (position_or_len (λ x. eqb x n) xs) (length xs)) _ _ (lt-ltb _ _ l)) ∙ walked n xs
  | inr l ↦ ap (λ o. unwrap_or o (length xs)) (cond-false (ltb (position_or_len (λ x. eqb x n) xs) (length xs)) _ _ (le-ltb _ _ l)) ∙ omega (arith, prefix_len-le-length (λ x. not (eqb x n)) xs, walked n xs)
]
