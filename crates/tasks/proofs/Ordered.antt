-- The places of an order after a push, and after a turn. Assumes nothing.
use Rattle.std.proofs.Common.{◌≡◌, ℕ, zero, suc, ◌+◌, ◌-◌, ◌<◌, List, [], ◌∷◌, length, set, drop, replicate, ap, ◌∙◌, arith}

-- what stands behind a place that is set is what stood there
behind_set : (xs : List ℕ) (i n m : ℕ) → i < length xs → drop i xs ≡ replicate (suc m) 0 → drop (suc i) (set xs i n) ≡ replicate m 0
behind_set [] i n m l e = absurd (omega arith)
behind_set (x ∷ xs) zero n m l e = cc
behind_set (x ∷ xs) (suc i) n m l e = behind_set xs i n m (omega arith) e

-- zeros behind the numbers are zeros behind one number more
pub one_more : (xs : List ℕ) (i n k : ℕ) → i < k → length xs ≡ k → drop i xs ≡ replicate (k - i) 0 → drop (i + 1) (set xs i n) ≡ replicate (k - (i + 1)) 0
one_more xs i n k l long e =
    let more : k - i ≡ suc (k - (i + 1)) = omega arith in
    let next : i + 1 ≡ suc i = omega arith in
    ap (λ j. drop j (set xs i n)) next ∙ behind_set xs i n (k - (i + 1)) (omega arith) (e ∙ ap (λ j. replicate j 0) more)
