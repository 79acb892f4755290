use Rattle.std.proofs.Common.{ℕ, sym, ap, ◌∙◌, rules, unwrap_or, nat_cmp}
use Rattle.std.specs.List.{range_with_len}
use Rattle.std.specs.Ordering.{max_by_ordering}
use Rattle.std.proofs.lemmas.Iterator.Consumers.{reduce_from_yields_List}
use Rattle.std.proofs.lemmas.List.Folds.{max_of_map}
use Rattle.tests.specs.Rules.{section_if_below}
use Rattle.tests.proofs.Numbers.{numbers_map, largest_numbers}
use Rattle.tests.proofs.sections.longest_section.Goals as goal

pub returns-clause-value : goal.returns-clause-value
returns-clause-value c =
    let h : ℕ → ℕ = section_if_below c.args.table.now.places c.args.task c.args.above.bits in
    c.unwrap_or.ensures
    ∙ ap (λ o. unwrap_or o 0) (reduce_from_yields_List (λ p z. max_by_ordering (nat_cmp p z) p z) c.map.result c.max.result c.max.ensures.ran
    (numbers_map _ h c.map.ensures.source c.map.ensures.closure (λ x r q k. search rules)))
    ∙ max_of_map h (range_with_len 0 32)
    ∙ sym (largest_numbers h 32)
