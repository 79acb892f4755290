-- What the order section of a file says, at its offset. Assumes nothing.
use Rattle.std.specs.Prelude.{◌≡◌, ℕ, ◌+◌, ◌⊎◌, List, ◌∷◌, ◌++◌, length}
use Rattle.tasks.specs.declared.table.Table.{Table}
use Rattle.roster_file.specs.Layout.{Named, OrderCut}
use Rattle.roster_file.specs.declared.fault.FileFault.{FileFault}
use Rattle.roster_file.specs.declared.fault.FileFault.TheVariants as fault

-- the order section at an offset: its count, its numbers, and the rest of the file at a later offset
pub record OrderRead (bytes : List ℕ) (at : ℕ) (t : Table) (order rest : List ℕ) (next : ℕ) : Type 0 where
  pub file : bytes ≡ length order ∷ (order ++ rest)
  pub named : Named order t
  pub forward : next ≡ at + 1 + length order

-- why there is no order section at an offset: its count or a number is not whole, or it is neither empty nor each task once
abbrev pub OrderRefused : List ℕ → ℕ → Table → FileFault → Type 0
OrderRefused bytes at t f =
    (OrderCut bytes × (f ≡ fault.Cut (at + length bytes)))
    ⊎ (((order : List ℕ) × (rest : List ℕ) × (bytes ≡ length order ∷ (order ++ rest)) × (Named order t → ⊥)) × (f ≡ fault.Order at))
