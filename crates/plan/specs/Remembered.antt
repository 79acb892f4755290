-- What the program remembers of the guarantee test. Assumes nothing.
use Rattle.std.specs.Prelude.{◌≡◌, ℕ, ◌≤◌, true, false, Some, None, slice_index_or}
use Rattle.tasks.specs.Sets.{member, excluding}
use Rattle.tasks.specs.declared.kind.Kind.TheVariants.{Strict}
use Rattle.tasks.specs.declared.row.Row.{Row}
use Rattle.tasks.specs.declared.table.Table.{Table}
use Rattle.demand.specs.declared.mode.Mode.TheVariants.{Normal, Abnormal}
use Rattle.schedulability.specs.Laws.{Raise, Removal}
use Rattle.schedulability.specs.Layers.{strictly}
use Rattle.schedulability.specs.LayersLemmas.{both_raise, both_removal, strictly_raise, strictly_removal}
use Rattle.schedulability.specs.Proper.{guarded}
use Rattle.tests.specs.Guarantee.{guaranteed}
use Rattle.tests.specs.Keeps.{in_time_raise, in_time_removal}
use Rattle.tests.specs.Rules.{responds}

-- of the tasks of a set, no strict one that is due by then passes the guarantee test below all the others
abbrev pub NoneBy : Table → ℕ → ℕ → Type 0
NoneBy t tasks due = (k : ℕ) (r : Row) → member tasks k ≡ true → slice_index_or t.places k None ≡ Some r → r.kind ≡ Strict → r.deadline ≤ due → guaranteed t k (excluding tasks k) ≡ false

-- the guarantee test keeps both laws
pub guaranteed_raise : Raise guaranteed
guaranteed_raise = both_raise (guarded (responds Normal)) (guarded (strictly (guarded (responds Abnormal)))) (in_time_raise Normal) (strictly_raise (guarded (responds Abnormal)) (in_time_raise Abnormal))

pub guaranteed_removal : Removal guaranteed
guaranteed_removal = both_removal (guarded (responds Normal)) (guarded (strictly (guarded (responds Abnormal)))) (in_time_removal Normal) (strictly_removal (guarded (responds Abnormal)) (in_time_removal Abnormal))
