-- What it means that tasks were taken up one after another. Assumes nothing.
use Rattle.std.specs.Prelude.{◌≡◌, ℕ, List, ◌∷◌, ◌++◌, map, All, Some, None, slice_index_or}
use Rattle.tasks.specs.Tables.{EntryRefused}
use Rattle.tasks.specs.declared.fault.EntryFault.{EntryFault}
use Rattle.tasks.specs.declared.row.Row.{Row}
use Rattle.tasks.specs.declared.standing.Standing.{Standing}

-- the order names these tasks, highest priority first, and each has its row in the table
abbrev pub Holds : List (ℕ × Row) → Standing → Type 0
Holds ts s = (s.order ≡ map (λ t. t.0) ts) × All (λ t. slice_index_or s.table.places t.0 None ≡ Some t.1) ts

-- one of these tasks is refused, and those before it are not
abbrev pub Stops : List (ℕ × Row) → EntryFault → Type 0
Stops ts f = (before : List (ℕ × Row)) × (after : List (ℕ × Row)) × (t : ℕ × Row) × (s : Standing) × (ts ≡ before ++ t ∷ after) × Holds before s × EntryRefused s.table.places t.0 t.1 f
