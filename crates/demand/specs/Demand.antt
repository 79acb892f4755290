-- What a task asks of the processor below a set of tasks, and its response time. Assumes nothing.
use Rattle.std.specs.Prelude.{◌≡◌, ℕ, ◌+◌, ◌-◌, ◌*◌, ◌/◌, ◌<◌, ◌≤◌, List, [], ◌∷◌, Some, None, Option, slice_index_or}
use Rattle.tasks.specs.Sets.{members}
use Rattle.tasks.specs.declared.row.Row.{Row}
use Rattle.demand.specs.declared.mode.Mode.{Mode}
use Rattle.demand.specs.declared.mode.Mode.TheVariants.{Normal, Abnormal}

-- a over b, the quotient rounded up
unfoldable pub ceil_div : ℕ → ℕ → ℕ
ceil_div a b = (a + (b - 1)) / b

-- how many releases of a task with period p fall into t ticks
abbrev pub releases : ℕ → ℕ → ℕ
releases p t = ceil_div t p

-- the longest time of a job in a mode
abbrev pub cost : Mode → Row → ℕ
cost Normal r = r.normal
cost Abnormal r = r.abnormal

-- what the task at a place asks for in t ticks; an empty place asks for nothing
abbrev pub share : Mode → ℕ → Option Row → ℕ
share m t (Some r) = cost m r * releases r.period t
share m t None = 0

-- the millionths of the processor that the task at a place takes at least, rounded down; none at an empty place
abbrev pub rate : Mode → Option Row → ℕ
rate m (Some r) = cost m r * 1000000 / r.period
rate m None = 0

-- what the tasks of a list ask for in t ticks
abbrev pub interference : Mode → List (Option Row) → List ℕ → ℕ → ℕ
interference m ps [] t = 0
interference m ps (j ∷ js) t = share m t (slice_index_or ps j None) + interference m ps js t

-- what a task asks for in t ticks below the tasks of a set
abbrev pub demand : Mode → List (Option Row) → Row → ℕ → ℕ → ℕ
demand m ps r h t = cost m r + interference m ps (members h) t

-- t is the least number from 1 to the end that has P
abbrev pub Least : (ℕ → Type 0) → ℕ → ℕ → Type 0
Least P end t = (1 ≤ t) × (t ≤ end) × P t × ((s : ℕ) → 1 ≤ s → s < t → P s → ⊥)

-- no number from 1 to the end has P
abbrev pub Never : (ℕ → Type 0) → ℕ → Type 0
Never P end = (s : ℕ) → 1 ≤ s → s ≤ end → P s → ⊥

-- the least number from 1 to the end that has P, or none where there is none
abbrev pub IsLeast : (ℕ → Type 0) → ℕ → Option ℕ → Type 0
IsLeast P end (Some t) = Least P end t
IsLeast P end None = Never P end

-- t ticks cover a fixed part and what the tasks of a set ask for
abbrev pub Covers : Mode → List (Option Row) → ℕ → ℕ → ℕ → Type 0
Covers m ps h c t = c + interference m ps (members h) t ≤ t

-- t ticks serve the task: its demand at t is at most t
abbrev pub Serves : Mode → List (Option Row) → Row → ℕ → ℕ → Type 0
Serves m ps r h t = demand m ps r h t ≤ t

-- how far a response time is searched for
abbrev pub search_end : Row → ℕ
search_end r = r.deadline

-- the time that is told of the least t that serves
abbrev pub told : Row → ℕ → ℕ
told r t = t

-- the response time of a task below the tasks of a set, or none where no t up to the end serves
abbrev pub IsResponse : Mode → List (Option Row) → Row → ℕ → Option ℕ → Type 0
IsResponse m ps r h (Some x) = (t : ℕ) × (x ≡ told r t) × Least (Serves m ps r h) (search_end r) t
IsResponse m ps r h None = Never (Serves m ps r h) (search_end r)
