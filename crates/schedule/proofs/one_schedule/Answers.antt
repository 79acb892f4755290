use Rattle.schedule.proofs.Ending.{one_schedule}
use Rattle.schedule.proofs.one_schedule.Goals as goal

pub returns : goal.returns
returns c = one_schedule
