use Rattle.std.proofs.Common.{◌≡◌, ℕ, ◌+◌, cond, take}
use Rattle.tasks.specs.Orders.{occurs, in_use}
use Rattle.tasks.specs.Sets.{member}
use Rattle.tasks.proofs.table.Table.is_listed_by.Given as goal

abbrev pub invariant-loop-number : goal.invariant-loop-number
invariant-loop-number l = (n : ℕ) → occurs n (take l.number-index l.numbers) + cond (member l.left.bits n) 1 0 ≡ cond (in_use l.self.places n) 1 0
