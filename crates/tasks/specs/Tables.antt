-- What entering a record into a table gives. Assumes nothing.
use Rattle.std.specs.Prelude.{◌≡◌, ℕ, true, List, Option}
use Rattle.tasks.specs.Bounds.{Lawful, RecordRefused}
use Rattle.tasks.specs.Orders.{in_use}
use Rattle.tasks.specs.declared.row.Row.{Row}
use Rattle.tasks.specs.declared.fault.EntryFault.{EntryFault}
use Rattle.tasks.specs.declared.fault.EntryFault.TheVariants.{Invalid, Taken}

-- the first question that is answered no: the record's own, then whether its place is empty
abbrev pub EntryRefused : List (Option Row) → ℕ → Row → EntryFault → Type 0
EntryRefused ps n r (Invalid f) = RecordRefused n r f
EntryRefused ps n r (Taken p) = (p ≡ n) × Lawful n r × (in_use ps n ≡ true)
