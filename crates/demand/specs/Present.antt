-- Whether a response time is present, as a test. Assumes nothing.
use Rattle.std.specs.Prelude.{ℕ, zero, suc, Bool, false, ◌||◌, List, Option, nat_le}
use Rattle.demand.specs.Demand.{demand, search_end}
use Rattle.demand.specs.declared.mode.Mode.{Mode}
use Rattle.tasks.specs.declared.row.Row.{Row}

-- some number from 1 to the end passes
unfoldable pub some_up_to : (ℕ → Bool) → ℕ → Bool
some_up_to p zero = false
some_up_to p (suc n) = p (suc n) || some_up_to p n

-- some t up to the end of the search serves the task
abbrev pub present : Mode → List (Option Row) → Row → ℕ → Bool
present m ps r h = some_up_to (λ t. nat_le (demand m ps r h t) t) (search_end r)
