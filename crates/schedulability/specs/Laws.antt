-- What a schedulability test means, and the two laws that its meaning keeps. Assumes nothing.
use Rattle.std.specs.Prelude.{◌≡◌, ℕ, Bool, true, ◌≢◌}
use Rattle.tasks.specs.Changes.{Emptied}
use Rattle.tasks.specs.Sets.{excluding}
use Rattle.tasks.specs.declared.table.Table.{Table}

-- a yes or no for each table, task and set of tasks above it; all others on the table are below
abbrev pub Meaning : Type 0
Meaning = Table → ℕ → ℕ → Bool

-- a yes stays a yes when one task moves from above to below
abbrev pub Raise : Meaning → Type 0
Raise says = (t : Table) (k h j : ℕ) → says t k h ≡ true → says t k (excluding h j) ≡ true

-- a yes stays a yes when another task, above or below, is taken off the table and out of the set
abbrev pub Removal : Meaning → Type 0
Removal says = (t u : Table) (k h j : ℕ) → Emptied t j u → (j ≢ k) → says t k h ≡ true → says u k (excluding h j) ≡ true

-- two meanings that give the same answers
abbrev pub Alike : Meaning → Meaning → Type 0
Alike says told = (t : Table) (k h : ℕ) → says t k h ≡ told t k h
