use Rattle.std.proofs.Common.{refl}
use Rattle.std.proofs.lemmas.Bool.Decides.{Decides-at}
use Rattle.tests.specs.Rules.{unblocked}
use Rattle.tests.proofs.Answers.{after_proper}
use Rattle.tests.proofs.Wording.{sections_words}
use Rattle.tests.proofs.sections.SectionsTest.passes.Goals as goal

pub returns-then-is_proper : goal.returns-then-is_proper
returns-then-is_proper c =
    let t = c.args.table.now in
    let k = c.args.task in
    let h = c.args.above.bits in
    let e = after_proper unblocked t k h _ c.if-is_proper.ensures.value c.is_unblocked.ensures in
    record { answer = e; same = λ u i g. refl; means = Decides-at _ _ e (sections_words t k h) }
