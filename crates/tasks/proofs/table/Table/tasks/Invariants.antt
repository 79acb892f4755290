use Rattle.std.proofs.Common.{◌≡◌, ℕ, ◌&&◌, ltb}
use Rattle.tasks.specs.Orders.{in_use}
use Rattle.tasks.specs.Sets.{member}
use Rattle.tasks.proofs.table.Table.tasks.Given as goal

abbrev pub invariant-loop-number : goal.invariant-loop-number
invariant-loop-number l = (n : ℕ) → member l.tasks.bits n ≡ (ltb n l.number && in_use l.self.places n)
