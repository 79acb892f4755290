use Rattle.std.proofs.Common.{◌≡◌, ◌++◌, map, take, drop}
use Rattle.std.specs.Option.{option_map}
use Rattle.tasks.proofs.table.Table.changed.Given as goal

abbrev pub invariant-loop-place : goal.invariant-loop-place
invariant-loop-place g l = let f = g.C.Change.changed l.by in l.place-items ≡ map (option_map f) (take l.place-index l.initial.place-items) ++ drop l.place-index l.initial.place-items
