-- What is left when places are filled from the lowest up. Assumes nothing.
use Rattle.std.specs.Prelude.{◌≡◌, ℕ, true, false, List, [], ◌∷◌}
use Rattle.tasks.specs.Orders.{in_use}
use Rattle.tasks.specs.Sets.{member, excluding}
use Rattle.tasks.specs.declared.table.Table.{Table}
use Rattle.schedulability.specs.Laws.{Meaning}
use Rattle.priority.specs.Passing.{Yes}

-- Places are filled from the lowest up. The tasks of a are left at first and those of b in the end; the list has those that took the
-- places. Of each of these, and of the set of the others left when its turn came, P holds.
abbrev pub Filled : (ℕ → ℕ → Type 0) → ℕ → List ℕ → ℕ → Type 0
Filled P a [] b = a ≡ b
Filled P a (k ∷ ks) b = (member a k ≡ true) × P (excluding a k) k × Filled P (excluding a k) ks b

-- none of the tasks gets a yes with the others above
abbrev pub Stuck : Meaning → Table → ℕ → Type 0
Stuck says t l = (k : ℕ) → member l k ≡ true → says t k (excluding l k) ≡ false

-- what some way of filling leaves: tasks that pass are put in their places, in any sequence, until none passes
abbrev pub LeftOver : Meaning → Table → ℕ → Type 0
LeftOver says t l = (a : ℕ) × (ks : List ℕ) × ((n : ℕ) → member a n ≡ in_use t.places n) × Filled (Yes says t) a ks l × Stuck says t l
