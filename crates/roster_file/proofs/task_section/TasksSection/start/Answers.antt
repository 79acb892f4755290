use Rattle.roster_file.proofs.Holding.{holds_none}
use Rattle.roster_file.proofs.task_section.TasksSection.start.Goals as goal

pub returns : goal.returns
returns c = holds_none _ c.empty.ensures
