use Rattle.timetable.proofs.Exclusive.{one_refusal, not_both}
use Rattle.timetable.proofs.questions.one_answer.Goals as goal

pub returns : goal.returns
returns c ps js finishes coming waiting = (one_refusal ps js finishes coming waiting, not_both ps js finishes coming waiting)
