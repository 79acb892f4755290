-- Orders of tables that are made row by row. Assumes nothing.
use Rattle.std.proofs.Common.{◌≡◌, ℕ, ◌<◌, false, [], ◌∷◌, set, replicate, is_some, Some, None, refl, ap, arith, length-set}
use Rattle.tasks.specs.Orders.{in_use, Lists}
use Rattle.tasks.specs.declared.row.Row.{Row}
use Rattle.tasks.specs.declared.table.Table.{Table}
use Rattle.tasks.proofs.Listing.{none_listed, put_listed}
use Rattle.tasks.proofs.Places.{none_at}

-- the order of two tasks that stand alone on a table
pub two_listed : (a b : ℕ) (r s : Row) → a < 32 → b < 32 → in_use (set (replicate 32 None) a (Some r)) b ≡ false → Lists (b ∷ a ∷ []) (set (set (replicate 32 None) a (Some r)) b (Some s))
two_listed a b r s l m e =
    put_listed (set (replicate 32 None) a (Some r)) b s (a ∷ []) (b ∷ a ∷ []) (length-set (replicate 32 None) a (Some r)) m e
    (put_listed (replicate 32 None) a r [] (a ∷ []) refl l (ap is_some (none_at 32 a)) (none_listed [] (replicate 32 None) refl refl) (λ n. refl))
    (λ n. refl)

-- two tasks are named in either order
pub swapped : (a b : ℕ) (t : Table) → Lists (a ∷ b ∷ []) t.places → Lists (b ∷ a ∷ []) t.places
swapped a b t s n = omega (arith, s n)
