-- What the guarantee test means. Assumes nothing.
use Rattle.std.specs.Prelude.{◌≡◌, ℕ, Some, None, slice_index_or}
use Rattle.tasks.specs.declared.kind.Kind.TheVariants.{Strict}
use Rattle.tasks.specs.declared.row.Row.{Row}
use Rattle.tasks.specs.declared.table.Table.{Table}
use Rattle.demand.specs.declared.mode.Mode.TheVariants.{Normal, Abnormal}
use Rattle.schedulability.specs.Laws.{Meaning}
use Rattle.schedulability.specs.Layers.{both, strictly}
use Rattle.schedulability.specs.Proper.{Proper, guarded}
use Rattle.tests.specs.Rules.{responds}
use Rattle.tests.specs.Words.{Served}

-- the normal test, and for a strict task the abnormal test too
abbrev pub guaranteed : Meaning
guaranteed = guarded (both (guarded (responds Normal)) (guarded (strictly (guarded (responds Abnormal)))))

-- without faults the task is in time below the tasks above it, and with fault recovery too if it is strict
abbrev pub Guaranteed : Table → ℕ → ℕ → Type 0
Guaranteed t k h = Proper t k h × ((r : Row) × (slice_index_or t.places k None ≡ Some r) × Served Normal t r h × (r.kind ≡ Strict → Served Abnormal t r h))
