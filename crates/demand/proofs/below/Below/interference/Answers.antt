use Rattle.std.proofs.Common.{◌*◌, ◌^◌, ℕ, get_or, None, sym, ◌∙◌, arith, rules}
use Rattle.std.proofs.lemmas.Iterator.Consumers.{sum_by_from_yields_List, fits_by_from_yields_list}
use Rattle.demand.proofs.Bounds.{lawful, share_most}
use Rattle.demand.proofs.Sums.{members_map, members_sum_le, interference_sum}
use Rattle.demand.proofs.below.Below.interference.Goals as goal
use Rattle.demand.specs.Demand.{share}
use Rattle.tasks.specs.Sets.{members}

pub sum-requires-clause-fits : goal.sum-requires-clause-fits
sum-requires-clause-fits c =
    let b = c.args.self.now in
    let h : ℕ → ℕ = λ j. share b.mode c.args.t (get_or b.table.now.places j None) in
    let l = members_sum_le h (1000000 * c.args.t) b.above.bits (λ n. share_most b.mode c.args.t _ (lawful b.table.now n)) in
    fits_by_from_yields_list h (members b.above.bits) c.map.result (2 ^ 64)
    (members_map _ h b.above c.into_iter.ensures.into_iter_gives c.map.ensures.source c.map.ensures.closure (λ x r q k. search rules))
    (omega arith)

pub returns : goal.returns
returns c =
    let b = c.args.self.now in
    let h : ℕ → ℕ = λ j. share b.mode c.args.t (get_or b.table.now.places j None) in
    let l = members_sum_le h (1000000 * c.args.t) b.above.bits (λ n. share_most b.mode c.args.t _ (lawful b.table.now n)) in
    let e = sum_by_from_yields_List h (members b.above.bits) c.map.result c.sum.result c.sum.ensures.ran
    (members_map _ h b.above c.into_iter.ensures.into_iter_gives c.map.ensures.source c.map.ensures.closure (λ x r q k. search rules)) in
    record { value = e ∙ sym (interference_sum b.mode b.table.now.places c.args.t (members b.above.bits)); bound = omega arith }
