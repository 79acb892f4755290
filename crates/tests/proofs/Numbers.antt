-- Sums and largest values over the task numbers, by a chain. Assumes nothing.
use Rattle.std.proofs.Common.{◌≡◌, ℕ, zero, suc, ◌+◌, ◌*◌, ◌≤◌, max, [], ◌∷◌, ◌++◌, map, get_or, Some, None, Option, sym, refl, ap, ◌∙◌, zero-le, add-one, arith, sum_by, fold}
use denote.Param.Members.{Mut}
use Rattle.std.specs.Fn.{Called}
use Rattle.std.specs.Iterator.Adapters.{map_source, map_callee}
use Rattle.std.specs.List.{range_with_len}
use Rattle.std.specs.declared.iter.Map.{Map}
use Rattle.std.specs.declared.ops.Range.{Range}
use Rattle.std.proofs.iter.Yields.{nat_range_steps}
use Rattle.std.proofs.lemmas.Iterator.{YieldsList, YieldsList-from_map, YieldsList-from_range, maps}
use Rattle.std.proofs.lemmas.List.Elements.{All-from_get_or}
use Rattle.std.proofs.lemmas.List.Sums.{fold_push, sum_by_push, sum_by-le}
use Rattle.tasks.specs.Bounds.{longest}
use Rattle.tasks.specs.declared.row.Row.{Row}
use Rattle.demand.proofs.Bounds.{LawfulAt}
use Rattle.demand.proofs.Rounding.{ceil_le}
use Rattle.tests.specs.Places.{sum_none, sum_more, largest_none, largest_more}
use Rattle.tests.specs.Rules.{sum_below, largest, utilization}

-- a chain over the numbers whose closure computes h
pub numbers_map : {F : Type 0} (g : Mut F (ℕ × Unit {0}) ℕ) (h : ℕ → ℕ) {s : Map (Range ℕ) F} {f : F} → map_source s ≡ record { start = 0; end = 32 } → map_callee s ≡ f → ((x r : ℕ) (q : F) → Called g f (x, tt) r q → (q ≡ f) × (r ≡ h x))
    → YieldsList (maps nat_range_steps g) (λ r. r) s (map h (range_with_len 0 32))
numbers_map g h m c k = YieldsList-from_map g h (YieldsList-from_range 0 32 32 m refl) c k

-- ---- a list of numbers and the numbers below n

range_push : (a n j : ℕ) → a + n ≡ j → range_with_len a (suc n) ≡ range_with_len a n ++ j ∷ []
range_push a zero j e = ap (λ x. x ∷ []) (omega (arith, e))
range_push a (suc n) j e = ap (λ xs. a ∷ xs) (range_push (a + 1) n j (omega (arith, e)))

pub sum_numbers : (f : ℕ → ℕ) (n : ℕ) → sum_below n f ≡ sum_by f (range_with_len 0 n)
sum_numbers f zero = sum_none f
sum_numbers f (suc n) = ap (λ m. sum_below m f) (sym (add-one n)) ∙ sum_more f n ∙ ap (λ s. s + f n) (sum_numbers f n) ∙ sym (sum_by_push f (range_with_len 0 n) n) ∙ ap (sum_by f) (sym (range_push 0 n n (omega arith)))

pub largest_numbers : (f : ℕ → ℕ) (n : ℕ) → largest n f ≡ fold (λ a x. max a (f x)) 0 (range_with_len 0 n)
largest_numbers f zero = largest_none f
largest_numbers f (suc n) =
    ap (λ m. largest m f) (sym (add-one n)) ∙ largest_more f n ∙ ap (λ m. max m (f n)) (largest_numbers f n) ∙ sym (fold_push (λ a x. max a (f x)) 0 (range_with_len 0 n) n) ∙ ap (fold (λ a x. max a (f x)) 0) (sym (range_push 0 n n (omega arith)))

-- of a value that is at most so much at each number
pub numbers_sum_le : (h : ℕ → ℕ) (most : ℕ) → ((n : ℕ) → h n ≤ most) → sum_by h (range_with_len 0 32) ≤ 32 * most
numbers_sum_le h most l = sum_by-le h most (range_with_len 0 32) (All-from_get_or (λ x. h x ≤ most) (range_with_len 0 32) 0 (λ i _. l (get_or (range_with_len 0 32) i 0)))

pub utilization_le : (o : Option Row) → LawfulAt o → utilization o ≤ longest * 1000000
utilization_le (Some r) b = let l = b r refl in omega (arith, ceil_le r.period (r.abnormal * 1000000) (omega arith))
utilization_le None b = zero-le
