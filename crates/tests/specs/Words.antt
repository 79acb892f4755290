-- What a yes of each test says in words. Assumes nothing.
use Rattle.std.specs.Prelude.{◌≡◌, ℕ, ◌+◌, ◌≤◌, false, Some, None, ◌≢◌, slice_index_or}
use Rattle.tasks.specs.Sets.{member}
use Rattle.tasks.specs.declared.row.Row.{Row}
use Rattle.tasks.specs.declared.table.Table.{Table}
use Rattle.demand.specs.Demand.{Serves, demand, search_end}
use Rattle.demand.specs.declared.mode.Mode.{Mode}
use Rattle.demand.specs.declared.mode.Mode.TheVariants.{Normal}
use Rattle.schedulability.specs.Proper.{Proper}
use Rattle.tests.specs.Rules.{load}

-- some t up to the end of the search serves the task
abbrev pub Served : Mode → Table → Row → ℕ → Type 0
Served m t r h = (n : ℕ) × (1 ≤ n) × (n ≤ search_end r) × Serves m t.places r h n

-- the question is proper, and the task is served
abbrev pub InTimeSays : Mode → Table → ℕ → ℕ → Type 0
InTimeSays m t k h = Proper t k h × ((r : Row) × (slice_index_or t.places k None ≡ Some r) × Served m t r h)

-- n ticks serve the task even where a task below it holds it up: any other task that is not above it, by its section
abbrev pub ServesBehind : Table → ℕ → Row → ℕ → ℕ → Type 0
ServesBehind t k r h n =
    Serves Normal t.places r h n
    × ((j : ℕ) (s : Row) → slice_index_or t.places j None ≡ Some s → (j ≢ k) → member h j ≡ false → demand Normal t.places r h n + s.section ≤ n)

-- the question is proper, and some t up to the end of the search serves the task behind every section below
abbrev pub SectionsSays : Table → ℕ → ℕ → Type 0
SectionsSays t k h = Proper t k h × ((r : Row) × (slice_index_or t.places k None ≡ Some r) × ((n : ℕ) × (1 ≤ n) × (n ≤ search_end r) × ServesBehind t k r h n))

-- the question is proper, and the load of the table is at most the limit
abbrev pub LoadSays : ℕ → Table → ℕ → ℕ → Type 0
LoadSays limit t k h = Proper t k h × (load t.places ≤ limit)
