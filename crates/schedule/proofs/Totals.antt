-- Sums over the numbers below n, and over a list. Assumes nothing.
use Rattle.std.proofs.Common.{◌≡◌, ℕ, zero, suc, ◌+◌, ◌*◌, ◌<◌, ◌≤◌, List, [], ◌∷◌, inl, inr, arith}
use Rattle.std.proofs.lemmas.Bool.{cases_eq, cases_lt}
use Rattle.tasks.specs.Orders.{occurs}
use Rattle.tasks.proofs.Members.{occurs_other}

abbrev pub sum_to : (ℕ → ℕ) → ℕ → ℕ
sum_to f zero = 0
sum_to f (suc n) = sum_to f n + f n

pub sum_to_le : (f g : ℕ → ℕ) (n : ℕ) → ((j : ℕ) → j < n → f j ≤ g j) → sum_to f n ≤ sum_to g n
sum_to_le f g zero h = omega arith
sum_to_le f g (suc n) h =
    let rest = sum_to_le f g n (λ j l. h j (omega arith)) in
    let last = h n (omega arith) in
    omega arith

pub sum_to_add : (f g : ℕ → ℕ) (n : ℕ) → sum_to (λ j. f j + g j) n ≡ sum_to f n + sum_to g n
sum_to_add f g zero = omega arith
sum_to_add f g (suc n) = omega (arith, sum_to_add f g n)

pub sum_to_scale : (c : ℕ) (f : ℕ → ℕ) (n : ℕ) → sum_to (λ j. c * f j) n ≡ c * sum_to f n
sum_to_scale c f zero = omega arith
sum_to_scale c f (suc n) = omega (arith, sum_to_scale c f n)

pub sum_to_ones : (n : ℕ) → sum_to (λ j. 1) n ≡ n
sum_to_ones zero = omega arith
sum_to_ones (suc n) = omega (arith, sum_to_ones n)

-- one of the terms is larger
pub sum_to_lt : (f g : ℕ → ℕ) (n i : ℕ) → ((j : ℕ) → j < n → f j ≤ g j) → i < n → f i < g i → sum_to f n < sum_to g n
sum_to_lt f g zero i h l k = absurd (omega arith)
sum_to_lt f g (suc n) i h l k =
    let below = sum_to_le f g n (λ j m. h j (omega arith)) in
    let last = h n (omega arith) in
    elim (cases_eq i n) [
      | inl e ↦ let top : f n < g n = rw e at k in omega arith
      | inr d ↦ let rest = sum_to_lt f g n i (λ j m. h j (omega arith)) (omega arith) k in omega arith
    ]

pub sum_to_zero : (f : ℕ → ℕ) (n : ℕ) → ((j : ℕ) → j < n → f j ≤ 0) → sum_to f n ≤ 0
sum_to_zero f zero h = omega arith
sum_to_zero f (suc n) h = omega (arith, sum_to_zero f n (λ j l. h j (omega arith)), h n (omega arith))

-- at most one term is not 0, and that is 1
pub sum_to_one : (f : ℕ → ℕ) (n : ℕ) → ((j : ℕ) → f j ≤ 1)
    → ((i j : ℕ) → i < n → j < n → 0 < f i → 0 < f j → i ≡ j) → sum_to f n ≤ 1
sum_to_one f zero small same = omega arith
sum_to_one f (suc n) small same = elim (cases_lt 0 (f n)) [
  | inl p ↦
      let none_below : (j : ℕ) → j < n → f j ≤ 0 =
      λ j l. elim (cases_lt 0 (f j)) [
        | inl q ↦ absurd (omega (arith, same j n (omega arith) (omega arith) q p))
        | inr q ↦ q
      ] in
      omega (arith, small n, sum_to_zero f n none_below)
  | inr z ↦ omega (arith, sum_to_one f n small (λ i j l m. same i j (omega arith) (omega arith)))
]

abbrev pub sum_over : (ℕ → ℕ) → List ℕ → ℕ
sum_over f [] = 0
sum_over f (x ∷ xs) = f x + sum_over f xs

pub sum_over_mono : (f g : ℕ → ℕ) (xs : List ℕ) → ((x : ℕ) → f x ≤ g x) → sum_over f xs ≤ sum_over g xs
sum_over_mono f g [] h = omega arith
sum_over_mono f g (x ∷ xs) h = omega (arith, h x, sum_over_mono f g xs h)

-- one of the terms is larger
pub sum_over_lt : (f g : ℕ → ℕ) (xs : List ℕ) (x : ℕ) → ((y : ℕ) → f y ≤ g y) → 1 ≤ occurs x xs → f x < g x → sum_over f xs < sum_over g xs
sum_over_lt f g [] x h m l = absurd (omega arith)
sum_over_lt f g (y ∷ ys) x h m l = elim (cases_eq y x) [
  | inl e ↦ let here : f y < g y = rw e l in omega (arith, sum_over_mono f g ys h)
  | inr d ↦ omega (arith, h y, sum_over_lt f g ys x h (omega (arith, occurs_other y x ys d)) l)
]
