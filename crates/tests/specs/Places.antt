-- Sums and largest values over the places of a table. Assumes nothing.
use Rattle.std.specs.Prelude.{◌≡◌, ℕ, zero, suc, ◌+◌, ◌≤◌, max, Bool, true, List, [], ◌∷◌, Some, None, Option, slice_index_or, slice_set, refl}
use Rattle.std.proofs.Common.{ap, arith, le_refl, add-one}
use Rattle.tasks.specs.declared.row.Row.{Row}
use Rattle.tests.specs.Rules.{of_task, largest, sum_below}

pub of_task_at : (o : Option Row) (f g : Row → Bool) → ((r : Row) → o ≡ Some r → f r ≡ true → g r ≡ true) → of_task o f ≡ true → of_task o g ≡ true
of_task_at (Some r) f g h e = h r refl e
of_task_at None f g h e = e

pub sum_mono : (n : ℕ) (f g : ℕ → ℕ) → ((j : ℕ) → f j ≤ g j) → sum_below n f ≤ sum_below n g
unfolding sum_below
sum_mono zero f g h = le_refl 0
sum_mono (suc n) f g h = omega (arith, sum_mono n f g h, h n)

pub largest_mono : (n : ℕ) (f g : ℕ → ℕ) → ((j : ℕ) → f j ≤ g j) → largest n f ≤ largest n g
unfolding largest
largest_mono zero f g h = le_refl 0
largest_mono (suc n) f g h = omega (arith, largest_mono n f g h, h n)

-- where one value more may come in, the largest grows by no more than that value
pub largest_one : (n : ℕ) (f g : ℕ → ℕ) (s : ℕ) → ((i : ℕ) → f i ≤ max (g i) s) → largest n f ≤ largest n g + s
unfolding largest
largest_one zero f g s h = omega arith
largest_one (suc n) f g s h = omega (arith, largest_one n f g s h, h n)

-- an emptied place has no more than it had
pub emptied : (f : Option Row → ℕ) → f None ≡ 0 → (ps : List (Option Row)) (j i : ℕ) → f (slice_index_or (slice_set ps j None) i None) ≤ f (slice_index_or ps i None)
emptied f z [] j i = le_refl _
emptied f z (p ∷ ps) zero zero = omega (arith, z)
emptied f z (p ∷ ps) zero (suc i) = le_refl _
emptied f z (p ∷ ps) (suc j) zero = le_refl _
emptied f z (p ∷ ps) (suc j) (suc i) = emptied f z ps j i

pub sum_none : (f : ℕ → ℕ) → sum_below 0 f ≡ 0
unfolding sum_below
sum_none f = refl

pub sum_more : (f : ℕ → ℕ) (n : ℕ) → sum_below (n + 1) f ≡ sum_below n f + f n
unfolding sum_below
sum_more f n = ap (λ m. sum_below m f) (add-one n)

pub largest_none : (f : ℕ → ℕ) → largest 0 f ≡ 0
unfolding largest
largest_none f = refl

pub largest_more : (f : ℕ → ℕ) (n : ℕ) → largest (n + 1) f ≡ max (largest n f) (f n)
unfolding largest
largest_more f n = ap (λ m. largest m f) (add-one n)
