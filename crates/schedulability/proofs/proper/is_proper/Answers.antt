use Rattle.std.proofs.Common.{◌≡◌, true, false, Decides, sym, ◌∙◌, rules}
use Rattle.std.proofs.lemmas.Bool.Decides.{same_from_decides}
use Rattle.tasks.specs.Orders.{in_use}
use Rattle.tasks.specs.Sets.{member}
use Rattle.schedulability.specs.Proper.{Proper}
use Rattle.schedulability.specs.Guards.{proper_decides}
use Rattle.schedulability.proofs.proper.is_proper.Goals as goal

pub returns-then-not-contains : goal.returns-then-not-contains
returns-then-not-contains c =
    let t = c.args.table.now in
    let k = c.args.task in
    let h = c.args.above.bits in
    let used : in_use t.places k ≡ true = search rules in
    let apart : member h k ≡ false = search rules in
    let s = c.is_subset_of.ensures in
    let m : Decides c.is_subset_of.result (Proper t k h) = (
      λ y. (used, apart, λ j i. sym (c.tasks.ensures j) ∙ s.0 y j i),
      λ p. s.1 (λ j i. c.tasks.ensures j ∙ p.2 j i),
    ) in
    record { value = same_from_decides _ _ m (proper_decides t k h); means = m }
