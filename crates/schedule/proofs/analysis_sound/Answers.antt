use Rattle.schedule.proofs.Sound.{analysis_sound}
use Rattle.schedule.proofs.analysis_sound.Goals as goal

pub returns : goal.returns
returns c = analysis_sound
