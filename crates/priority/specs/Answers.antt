-- What plan and judge answer. Assumes nothing.
use Rattle.std.specs.Prelude.{◌≡◌, ℕ, ◌+◌, false, List, ◌∷◌, ◌++◌, length, Some, None, Ok, Err, Option, Result}
use Rattle.tasks.specs.declared.order.Order.{Order}
use Rattle.tasks.specs.declared.table.Table.{Table}
use Rattle.schedulability.specs.Laws.{Meaning}
use Rattle.priority.specs.Passing.{named, Passes}
use Rattle.priority.specs.declared.fault.PlanFault.{PlanFault}

-- the tasks that planning leaves without a place
abbrev pub left_by : Result Order PlanFault → ℕ
left_by (Ok o) = 0
left_by (Err f) = f.left.bits

-- the place, counted from 1, of the first task of the order that gets a no; none where the order passes
abbrev pub FirstNo : Meaning → Table → List ℕ → Option ℕ → Type 0
FirstNo says t o None = Passes says t o
FirstNo says t o (Some n) =
    (xs ys : List ℕ) × (k : ℕ) × (o ≡ xs ++ k ∷ ys) × (n ≡ length xs + 1) × Passes says t xs × (says t k (named xs) ≡ false)
