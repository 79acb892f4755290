use Rattle.std.proofs.Common.{eq-eqb, eqb-true}
use Rattle.tasks.proofs.Subsets.{and_subset, subset_and}
use Rattle.tasks.proofs.set.TaskSet.is_subset_of.Goals as goal

pub returns : goal.returns
returns c = (λ y. and_subset c.args.self.bits c.args.other.bits (eqb-true _ _ y), λ s. eq-eqb _ _ (subset_and c.args.self.bits c.args.other.bits s))
