-- After the number and the kind the times so far are laid. Assumes nothing.
use Rattle.std.proofs.Common.{◌≡◌, ◌+◌, ◌*◌, ◌++◌, take}
use Rattle.std.specs.List.{flat_map}
use Rattle.roster_file.specs.Entries.{time_bytes}
use Rattle.roster_file.proofs.task_section.TasksSection.encode.Given as goal

abbrev pub invariant-loop-i : goal.invariant-loop-i
invariant-loop-i l = take (2 + 4 * l.i) l.bytes ≡ take 2 l.initial.bytes ++ flat_map time_bytes (take l.i l.time-items)
