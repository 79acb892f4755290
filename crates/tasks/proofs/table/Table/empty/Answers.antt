use Rattle.std.proofs.Common.{refl}
use Rattle.tasks.specs.Bounds.{Times, Window, Section}
use Rattle.tasks.proofs.Places.{every_none}
use Rattle.tasks.proofs.table.Table.empty.Goals as goal

pub invariant_of-result : goal.invariant_of-result
invariant_of-result c = record { full = refl; times = every_none Times 32; window = every_none Window 32; section = every_none Section 32 }
