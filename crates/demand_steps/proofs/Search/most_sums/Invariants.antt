use Rattle.std.proofs.Common.{◌≤◌}
use Rattle.demand_steps.proofs.Search.most_sums.Given as goal

abbrev pub invariant-loop-t : goal.invariant-loop-t
invariant-loop-t l = l.most ≤ l.t
