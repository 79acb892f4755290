-- Tables changed row by row, and tables with a task taken off. Assumes nothing.
use Rattle.std.specs.Prelude.{◌≡◌, ℕ, List, map, None, Option, slice_set}
use Rattle.tasks.specs.declared.row.Row.{Row}
use Rattle.tasks.specs.declared.table.Table.{Table}
use Rattle.std.specs.Option.{option_map}

-- every row in use changed in the same way
abbrev pub changed_places : (Row → Row) → List (Option Row) → List (Option Row)
changed_places f ps = map (option_map f) ps

-- the table that is left when a task is taken off
abbrev pub Emptied : Table → ℕ → Table → Type 0
Emptied t j u = u.places ≡ slice_set t.places j None
