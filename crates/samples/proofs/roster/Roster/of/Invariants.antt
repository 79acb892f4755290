use Rattle.std.proofs.Common.{take}
use Rattle.samples.specs.Rosters.{Holds}
use Rattle.samples.proofs.roster.Roster.of.Given as goal

abbrev pub invariant-loop-number : goal.invariant-loop-number
invariant-loop-number l = Holds (take l.number-index l.tasks) l.roster.standing
