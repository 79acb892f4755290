-- Which questions a test answers at all. Assumes nothing.
use Rattle.std.specs.Prelude.{◌≡◌, ℕ, ◌/◌, ◌%◌, Bool, true, false, not, ◌&&◌, ◌||◌, List, [], ◌∷◌, is_some, Option, ◌==◌}
use Rattle.tasks.specs.Orders.{in_use}
use Rattle.tasks.specs.Sets.{member}
use Rattle.tasks.specs.declared.row.Row.{Row}
use Rattle.tasks.specs.declared.table.Table.{Table}
use Rattle.schedulability.specs.Laws.{Meaning}

-- the task is on the table, it is not above itself, and every task above it is on the table
abbrev pub Proper : Table → ℕ → ℕ → Type 0
Proper t k h = (in_use t.places k ≡ true) × (member h k ≡ false) × ((j : ℕ) → member h j ≡ true → in_use t.places j ≡ true)

-- each member has a task at its place, the lowest bit at the first place
abbrev pub all_in_use : ℕ → List (Option Row) → Bool
all_in_use h [] = h == 0
all_in_use h (p ∷ ps) = (is_some p || h % 2 == 0) && all_in_use (h / 2) ps

-- the same as a yes or no
abbrev pub proper : Meaning
proper t k h = in_use t.places k && (not (member h k) && all_in_use h t.places)

-- a rule with that question before it
abbrev pub guarded : Meaning → Meaning
guarded rule t k h = proper t k h && rule t k h
