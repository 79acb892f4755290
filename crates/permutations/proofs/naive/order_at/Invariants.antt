use Rattle.std.proofs.Common.{vec_len}
use Rattle.permutations.proofs.naive.order_at.Given as goal

abbrev pub decreases-loop-left : goal.decreases-loop-left
decreases-loop-left l = vec_len l.left
