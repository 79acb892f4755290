-- A list that names each task of a table at most once is no longer than the table. Assumes nothing.
use Rattle.std.proofs.Common.{◌≡◌, ℕ, zero, suc, ◌+◌, ◌≤◌, Bool, true, false, cond, eqb, ltb, List, [], ◌∷◌, length, is_some, None, Option, sym, refl, ap, inl, inr, arith}
use Rattle.std.proofs.lemmas.List.{get_or_past}
use Rattle.std.proofs.lemmas.Bool.{cases_lt, cond-true, cond-false, lt-ltb, le-ltb}
use Rattle.std.proofs.lemmas.Bool.Decides.{nat_tests}
use Rattle.tasks.specs.declared.row.Row.{Row}
use Rattle.tasks.specs.Orders.{occurs, in_use, Lists}
use Rattle.tasks.proofs.Members.{occurs_same}

-- how many entries of the list are below m, number by number
abbrev tally : ℕ → List ℕ → ℕ
tally zero xs = 0
tally (suc m) xs = occurs m xs + tally m xs

below_one : (x m : ℕ) → cond (eqb x m) 1 0 + cond (ltb x m) 1 0 ≡ cond (ltb x (suc m)) 1 0
below_one x m = grind (arith, nat_tests)

tally_none : (m : ℕ) → tally m [] ≡ 0
tally_none zero = refl
tally_none (suc m) = omega (arith, tally_none m)

tally_cons : (m x : ℕ) (xs : List ℕ) → tally m (x ∷ xs) ≡ cond (ltb x m) 1 0 + tally m xs
tally_cons zero x xs = omega (arith, cond-false {A = ℕ} (ltb x 0) 1 0 (le-ltb x 0 (omega arith)))
tally_cons (suc m) x xs = omega (arith, tally_cons m x xs, below_one x m)

tally_length : (m : ℕ) (xs : List ℕ) → ((n : ℕ) → m ≤ n → occurs n xs ≡ 0) → length xs ≡ tally m xs
tally_length m [] e = sym (tally_none m)
tally_length m (x ∷ xs) e =
    let r = tally_length m xs (λ n l. omega (arith, e n l)) in
    elim (cases_lt x m) [
      | inl l ↦ omega (arith, tally_cons m x xs, cond-true {A = ℕ} (ltb x m) 1 0 (lt-ltb x m l))
      | inr l ↦ absurd (omega (arith, e x l, occurs_same x xs))
    ]

tally_le : (m : ℕ) (xs : List ℕ) → ((n : ℕ) → occurs n xs ≤ 1) → tally m xs ≤ m
tally_le zero xs e = omega arith
tally_le (suc m) xs e = omega (arith, e m, tally_le m xs e)

-- what is counted by a yes or no
pub at_most_one : (b : Bool) → cond b 1 0 ≤ 1
at_most_one true = omega arith
at_most_one false = omega arith

-- numbers below m, each at most once, are at most m
pub few_below : (m : ℕ) (xs : List ℕ) → ((n : ℕ) → occurs n xs ≤ cond (ltb n m) 1 0) → length xs ≤ m
few_below m xs e =
    let l = tally_length m xs (λ n q. omega (arith, e n, cond-false {A = ℕ} (ltb n m) 1 0 (le-ltb n m q))) in
    omega (arith, tally_le m xs (λ n. omega (arith, e n, at_most_one (ltb n m))))

in_use_below : (ps : List (Option Row)) (n : ℕ) → cond (in_use ps n) 1 0 ≤ cond (ltb n (length ps)) 1 0
in_use_below ps n = elim (cases_lt n (length ps)) [
  | inl l ↦ omega (arith, at_most_one (in_use ps n), cond-true {A = ℕ} (ltb n (length ps)) 1 0 (lt-ltb n (length ps) l))
  | inr l ↦ omega (arith, cond-false {A = ℕ} (in_use ps n) 1 0 (ap is_some (get_or_past ps n None l)))
]

-- tasks of the table, each at most once
pub few_among : (xs : List ℕ) (ps : List (Option Row)) → length ps ≡ 32 → ((n : ℕ) → occurs n xs ≤ cond (in_use ps n) 1 0) → length xs ≤ 32
few_among xs ps f e = let b = few_below (length ps) xs (λ n. omega (arith, e n, in_use_below ps n)) in omega arith

pub few : (xs : List ℕ) (ps : List (Option Row)) → length ps ≡ 32 → Lists xs ps → length xs ≤ 32
few xs ps f s = few_among xs ps f (λ n. omega (arith, s n))
