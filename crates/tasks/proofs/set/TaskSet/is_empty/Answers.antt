use Rattle.std.proofs.Common.{refl, ap, ◌∙◌}
use Rattle.std.proofs.lemmas.Bool.{eqb-true}
use Rattle.tasks.specs.Sets.{members}
use Rattle.tasks.proofs.Members.{members_none}
use Rattle.tasks.proofs.set.TaskSet.is_empty.Goals as goal

pub returns : goal.returns
returns c = record { bits = refl; members = λ e. ap members (eqb-true c.args.self.bits 0 e) ∙ members_none 0 32 }
