-- Bounds of what a lawful task asks for. Assumes nothing.
use Rattle.std.proofs.Common.{◌≡◌, ℕ, ◌*◌, ◌≤◌, get_or, Some, None, Option, refl, zero-le, mul-le-mul, div-le_self, arith}
use Rattle.demand.proofs.Rounding.{ceil_le}
use Rattle.demand.specs.Demand.{releases, cost, share, rate}
use Rattle.demand.specs.declared.mode.Mode.{Mode}
use Rattle.demand.specs.declared.mode.Mode.TheVariants.{Normal, Abnormal}
use Rattle.tasks.specs.Bounds.{Bounded, longest}
use Rattle.tasks.specs.declared.row.Row.{Row}
use Rattle.tasks.specs.declared.table.Table.{Table}

pub cost_le : (m : Mode) (r : Row) → Bounded r → cost m r ≤ longest
cost_le Normal r b = omega arith
cost_le Abnormal r b = omega arith

-- at most t of its longest jobs in t ticks
pub asked_le : (m : Mode) (r : Row) (t : ℕ) → Bounded r → cost m r * releases r.period t ≤ longest * t
asked_le m r t b = mul-le-mul (cost_le m r b) (ceil_le r.period t (omega arith))

-- a place holds no row out of bounds
abbrev pub LawfulAt : Option Row → Type 0
LawfulAt o = (r : Row) → o ≡ Some r → Bounded r

pub lawful : (t : Table) (n : ℕ) → LawfulAt (get_or t.places n None)
lawful t n r e = (t.times n r e, t.window n r e, t.section n r e)

pub share_most : (m : Mode) (t : ℕ) (o : Option Row) → LawfulAt o → share m t o ≤ longest * t
share_most m t (Some r) b = asked_le m r t (b r refl)
share_most m t None b = zero-le

pub rate_most : (m : Mode) (o : Option Row) → LawfulAt o → rate m o ≤ longest * 1000000
rate_most m (Some r) b = omega (arith, div-le_self (cost m r * 1000000) r.period, cost_le m r (b r refl))
rate_most m None b = zero-le
