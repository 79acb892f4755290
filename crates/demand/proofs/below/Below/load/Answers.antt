use Rattle.std.proofs.Common.{◌*◌, ◌^◌, ℕ, get_or, None, ap, arith, rules}
use Rattle.std.proofs.lemmas.Iterator.Consumers.{sum_by_from_yields_List, fits_by_from_yields_list}
use Rattle.demand.proofs.Bounds.{lawful, rate_most}
use Rattle.demand.proofs.Sums.{members_map, members_sum_le, load_le}
use Rattle.demand.proofs.below.Below.load.Goals as goal
use Rattle.demand.specs.Demand.{rate}
use Rattle.tasks.specs.Sets.{members}

pub sum-requires-clause-fits : goal.sum-requires-clause-fits
sum-requires-clause-fits c =
    let b = c.args.self.now in
    let h : ℕ → ℕ = λ j. rate b.mode (get_or b.table.now.places j None) in
    let l = members_sum_le h 1000000000000 b.above.bits (λ n. rate_most b.mode _ (lawful b.table.now n)) in
    fits_by_from_yields_list h (members b.above.bits) c.map.result (2 ^ 64)
    (members_map _ h b.above c.into_iter.ensures.into_iter_gives c.map.ensures.source c.map.ensures.closure (λ x r q k. search rules))
    (omega arith)

pub returns : goal.returns
returns c =
    let b = c.args.self.now in
    let h : ℕ → ℕ = λ j. rate b.mode (get_or b.table.now.places j None) in
    let e = sum_by_from_yields_List h (members b.above.bits) c.map.result c.sum.result c.sum.ensures.ran
    (members_map _ h b.above c.into_iter.ensures.into_iter_gives c.map.ensures.source c.map.ensures.closure (λ x r q k. search rules)) in
    λ t. omega (arith, ap (λ x. t * x) e, load_le b.mode b.table.now.places t (members b.above.bits) (lawful b.table.now))
