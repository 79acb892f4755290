use Rattle.std.proofs.Common.{ℕ, ◌+◌, ◌-◌, ◌<◌, ◌≤◌}
use Rattle.demand.specs.Demand.{Covers}
use Rattle.demand.proofs.below.Below.least_covering.Given as goal

abbrev pub invariant-loop-t : goal.invariant-loop-t
invariant-loop-t l = (1 ≤ l.t) × ((s : ℕ) → 1 ≤ s → s < l.t → Covers l.self.mode l.self.table.now.places l.self.above.bits l.fixed s → ⊥)

abbrev pub decreases-loop-t : goal.decreases-loop-t
decreases-loop-t l = l.«end» + 1 - l.t
