-- What it means that a list of task numbers names each task of a table once. Assumes nothing.
use Rattle.std.specs.Prelude.{◌≡◌, ℕ, ◌+◌, Bool, cond, List, [], ◌∷◌, is_some, None, Option, ◌==◌, slice_index_or}
use Rattle.tasks.specs.declared.row.Row.{Row}

-- how often a number is named
abbrev pub occurs : ℕ → List ℕ → ℕ
occurs n [] = 0
occurs n (x ∷ xs) = cond (x == n) 1 0 + occurs n xs

-- the place of a number holds a task
abbrev pub in_use : List (Option Row) → ℕ → Bool
in_use ps n = is_some (slice_index_or ps n None)

-- each task of the table once, and nothing else
abbrev pub Lists : List ℕ → List (Option Row) → Type 0
Lists xs ps = (n : ℕ) → occurs n xs ≡ cond (in_use ps n) 1 0
