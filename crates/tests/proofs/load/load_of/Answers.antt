use Rattle.std.proofs.Common.{ℕ, ◌^◌, get_or, None, sym, ◌∙◌, arith, rules}
use Rattle.std.specs.List.{range_with_len}
use Rattle.std.proofs.lemmas.Iterator.Consumers.{sum_by_from_yields_List, fits_by_from_yields_list}
use Rattle.demand.proofs.Bounds.{lawful}
use Rattle.tests.specs.Rules.{utilization}
use Rattle.tests.proofs.Numbers.{numbers_map, sum_numbers, numbers_sum_le, utilization_le}
use Rattle.tests.proofs.load.load_of.Goals as goal

pub sum-requires-clause-fits : goal.sum-requires-clause-fits
sum-requires-clause-fits c =
    let h : ℕ → ℕ = λ n. utilization (get_or c.args.table.now.places n None) in
    let l = numbers_sum_le h 1000000000000 (λ n. utilization_le _ (lawful c.args.table.now n)) in
    fits_by_from_yields_list h (range_with_len 0 32) c.map.result (2 ^ 64)
    (numbers_map _ h c.map.ensures.source c.map.ensures.closure (λ x r q k. search rules))
    (omega arith)

pub returns : goal.returns
returns c =
    let h : ℕ → ℕ = λ n. utilization (get_or c.args.table.now.places n None) in
    sum_by_from_yields_List h (range_with_len 0 32) c.map.result c.sum.result c.sum.ensures.ran
    (numbers_map _ h c.map.ensures.source c.map.ensures.closure (λ x r q k. search rules))
    ∙ sym (sum_numbers h 32)
