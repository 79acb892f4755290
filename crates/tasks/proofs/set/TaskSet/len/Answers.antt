use Rattle.std.proofs.Common.{sym, arith}
use Rattle.tasks.proofs.Members.{length_members, occurs_members}
use Rattle.tasks.proofs.set.TaskSet.len.Goals as goal

pub returns : goal.returns
returns c = record { count = sym (length_members 0 32 c.args.self.bits (omega arith)); once = λ n. occurs_members 32 c.args.self.bits n (omega arith) }
