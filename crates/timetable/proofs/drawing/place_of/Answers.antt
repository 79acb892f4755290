use Rattle.std.proofs.Common.{eqb, length, unwrap_or, ap, ◌∙◌, rules, tests}
use Rattle.schedule.specs.Schedule.{place}
use Rattle.std.proofs.lemmas.Iterator.{YieldsList-from_slice}
use Rattle.std.proofs.lemmas.Iterator.Search.{position_from_yields_List}
use Rattle.timetable.proofs.Ranked.{placed}
use Rattle.timetable.proofs.drawing.place_of.Goals as goal

pub returns : goal.returns
returns c =
    let numbers = c.as_slice-numbers.result.now in
    let found = position_from_yields_List (λ x. eqb x c.args.task) _ _ c.position.result c.position.ensures.ran (YieldsList-from_slice numbers c.iter.ensures.rest) (λ x b q k. search (rules, tests)) in
    c.unwrap_or.ensures ∙ ap (λ o. unwrap_or o (length numbers)) found ∙ placed c.args.task numbers ∙ ap (λ xs. place xs c.args.task) c.as_slice-numbers.ensures.numbers
