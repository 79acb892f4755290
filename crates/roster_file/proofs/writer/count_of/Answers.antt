use Rattle.std.proofs.Common.{length, ap, ◌∙◌, arith, rules}
use Rattle.std.proofs.lemmas.Iterator.{YieldsList-from_range}
use Rattle.std.proofs.lemmas.Iterator.Consumers.{count_from_yields_List, YieldsList-from_filter_map}
use Rattle.roster_file.proofs.Writing.{below_range}
use Rattle.roster_file.proofs.writer.count_of.Goals as goal

pub returns : goal.returns
returns g c =
    let placed = g.S.Section.placed c.args.section.now in
    count_from_yields_List c.filter_map.result c.count.result c.count.ensures.ran (YieldsList-from_filter_map _ placed (YieldsList-from_range 0 32 32 c.filter_map.ensures.source (omega arith)) c.filter_map.ensures.closure (λ x r q k. search rules)) ∙ ap length (below_range placed 32)
