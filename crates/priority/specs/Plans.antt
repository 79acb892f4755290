-- Which of the orders that pass is the plan. Assumes nothing.
use Rattle.std.specs.Prelude.{◌≡◌, ℕ, ◌<◌, true, false, ◌⊎◌, List, Some, None, Option, slice_index_or}
use Rattle.tasks.specs.Orders.{Lists}
use Rattle.tasks.specs.Sets.{member, including, excluding}
use Rattle.tasks.specs.declared.row.Row.{Row}
use Rattle.tasks.specs.declared.table.Table.{Table}
use Rattle.schedulability.specs.Laws.{Meaning}
use Rattle.priority.specs.Passing.{AtEachPlace, Yes}

-- the deadline at a place, 0 for an empty one
abbrev pub deadline_at : Option Row → ℕ
deadline_at (Some r) = r.deadline
deadline_at None = 0

-- the deadline of a task
abbrev pub deadline : Table → ℕ → ℕ
deadline t n = deadline_at (slice_index_or t.places n None)

-- candidates for a place are tried by their deadlines, longest first, and of equal deadlines the higher number first
abbrev pub TriedBefore : Table → ℕ → ℕ → Type 0
TriedBefore t j k = (deadline t k < deadline t j) ⊎ ((deadline t j ≡ deadline t k) × (k < j))

-- the task gets a yes with the set h above, and each task of h that is tried before it gets a no in its stead
abbrev pub FirstYes : Meaning → Table → ℕ → ℕ → Type 0
FirstYes says t h k = Yes says t h k × ((j : ℕ) → member h j ≡ true → TriedBefore t j k → says t j (excluding (including h k) j) ≡ false)

-- each task once, and at each place the first that gets a yes there of it and the tasks before it
abbrev pub IsPlan : Meaning → Table → List ℕ → Type 0
IsPlan says t o = Lists o t.places × AtEachPlace (FirstYes says t) o
