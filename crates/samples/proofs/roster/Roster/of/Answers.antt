use Rattle.std.proofs.Common.{Err, MatchResult, sym, ap, ◌∙◌, subst}
use Rattle.std.proofs.lemmas.List.{take_all}
use Rattle.std.proofs.lemmas.List.Elements.{All-nil}
use Rattle.std.proofs.lemmas.Result.{err_from_is_err_and}
use Rattle.samples.specs.declared.roster.Roster.{Roster}
use Rattle.samples.specs.Rosters.{Holds, Stops}
use Rattle.samples.proofs.Holding.{goes_on, stops}
use Rattle.samples.proofs.roster.Roster.of.Goals as goal

pub loop-number-init : goal.loop-number-init
loop-number-init c = (c.empty-roster.ensures.order, All-nil _)

pub returns-in_err-add : goal.returns-in_err-add
returns-in_err-add c =
    let p = err_from_is_err_and c.from_residual.result c.from_residual.ensures.1 in
    subst (λ r. MatchResult r (λ (o : Roster). Holds c.args.tasks.now o.standing) (Stops c.args.tasks.now)) (sym (p.1 ∙ ap Err p.2)) (stops _ _ _ c.loop-number.roster.standing _ c.loop-number-test.true c.loop-number.invariant c.in_err-add.ensures.0)

pub loop-number-preserved : goal.loop-number-preserved
loop-number-preserved c = goes_on _ _ _ c.loop-number.roster.standing c.add.new.self.standing c.loop-number-test.true c.loop-number.invariant c.in_ok-add.ensures

pub returns : goal.returns
returns c = subst (λ xs. Holds xs c.loop-number.roster.standing) (take_all _ _ c.loop-number-test.false) c.loop-number.invariant
