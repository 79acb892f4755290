use Rattle.std.proofs.Common.{◌≡◌, ◌≤◌, length, take}
use Rattle.tasks.proofs.order.Order.from_slice.Given as goal

abbrev pub invariant-loop-number : goal.invariant-loop-number
invariant-loop-number l = (l.order ≡ take l.number-index l.numbers) × (length l.order ≤ 32)
