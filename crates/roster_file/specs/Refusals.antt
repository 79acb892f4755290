-- What each fault of a file tells. Assumes nothing.
use Rattle.tasks.specs.Refusals.{plain, entry_tells, space_tells}
use Rattle.tasks.specs.declared.refusal.Refusal.{Refusal}
use Rattle.tasks.specs.declared.refusal.Layer.TheVariants as layer
use Rattle.roster_file.specs.declared.fault.Located.{Located}
use Rattle.roster_file.specs.declared.fault.FileFault.{FileFault}
use Rattle.roster_file.specs.declared.fault.FileFault.TheVariants.{Edition, Cut, Count, Kind, Entry, Order, Trailing}
use Rattle.roster_file.specs.declared.fault.RewriteFault.{RewriteFault}
use Rattle.roster_file.specs.declared.fault.RewriteFault.TheVariants as rewrite

-- a record's fault is told by its number, beside the offset of the record, and is carried inside
abbrev pub located_tells : Located → Refusal
located_tells located = record { number = (entry_tells located.fault).number; layer = layer.File; place = located.offset; innermost = (entry_tells located.fault).innermost }

-- every other fault of a file carries none inside
abbrev pub file_tells : FileFault → Refusal
file_tells Edition = plain 14 layer.File 0
file_tells (Cut length) = plain 15 layer.File length
file_tells Count = plain 16 layer.File 1
file_tells (Kind offset) = plain 17 layer.File offset
file_tells (Entry located) = located_tells located
file_tells (Order offset) = plain 18 layer.File offset
file_tells (Trailing offset) = plain 19 layer.File offset

-- a file that could not be read, or a space that was too short, is told as it is
abbrev pub rewrite_tells : RewriteFault → Refusal
rewrite_tells (rewrite.File fault) = file_tells fault
rewrite_tells (rewrite.Space fault) = space_tells fault
