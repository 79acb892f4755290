-- Orders that pass a test. Assumes nothing.
use Rattle.std.specs.Prelude.{◌≡◌, ℕ, true, List, [], ◌∷◌, ◌++◌}
use Rattle.tasks.specs.Orders.{Lists}
use Rattle.tasks.specs.Sets.{including}
use Rattle.tasks.specs.declared.table.Table.{Table}
use Rattle.schedulability.specs.Laws.{Meaning}

-- the set of the tasks that a list names
abbrev pub named : List ℕ → ℕ
named [] = 0
named (x ∷ xs) = including (named xs) x

-- what holds at each place of an order, of the set of the tasks before it and of the task there
abbrev pub AtEachPlace : (ℕ → ℕ → Type 0) → List ℕ → Type 0
AtEachPlace P o = (xs ys : List ℕ) (k : ℕ) → o ≡ xs ++ k ∷ ys → P (named xs) k

-- the task gets a yes with the set h above
abbrev pub Yes : Meaning → Table → ℕ → ℕ → Type 0
Yes says t h k = says t k h ≡ true

-- each task gets a yes with exactly the tasks before it above
abbrev pub Passes : Meaning → Table → List ℕ → Type 0
Passes says t o = AtEachPlace (Yes says t) o

-- no order of the table's tasks passes
abbrev pub NoOrder : Meaning → Table → Type 0
NoOrder says t = (o : List ℕ) → Lists o t.places → Passes says t o → ⊥
