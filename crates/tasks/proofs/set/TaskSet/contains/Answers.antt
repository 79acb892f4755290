use Rattle.std.proofs.Common.{sym, ◌∙◌, arith}
use Rattle.std.proofs.lemmas.Bool.{lt-leb}
use Rattle.tasks.proofs.Sets.{member_past}
use Rattle.tasks.proofs.set.TaskSet.contains.Goals as goal

pub returns-else-number-le-LAST : goal.returns-else-number-le-LAST
returns-else-number-le-LAST c = lt-leb c.args.number 31 (omega arith) ∙ sym (member_past 32 c.args.self.bits c.args.number (omega arith) (omega arith))
