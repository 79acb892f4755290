use Rattle.std.proofs.Common.{arith}
use Rattle.roster_file.proofs.Holding.{holds_more, mapped}
use Rattle.roster_file.proofs.task_section.TasksSection.keep.Goals as goal

pub returns : goal.returns
returns c =
    let k = mapped _ _ _ c.enter.result c.map_err.result tt c.enter.ensures.entered c.map_err.ensures.cases c.map_err.ensures.variant c.in_ok-map_err.was in
    let t = c.args.self.now.table in
    λ es h. holds_more es c.args.entry t.places c.enter.new.self.places (omega (arith, t.full, k.0)) k.1 k.2 h
