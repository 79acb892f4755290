-- What each fault tells: its number, its layer, its place and the innermost number. Assumes nothing.
use Rattle.std.specs.Prelude.{ℕ}
use Rattle.tasks.specs.declared.refusal.Refusal.{Refusal}
use Rattle.tasks.specs.declared.refusal.Layer.{Layer}
use Rattle.tasks.specs.declared.refusal.Layer.TheVariants as layer
use Rattle.tasks.specs.declared.fault.RecordFault.{RecordFault}
use Rattle.tasks.specs.declared.fault.RecordFault.TheVariants.{Number, Times, Window, Section}
use Rattle.tasks.specs.declared.fault.EntryFault.{EntryFault}
use Rattle.tasks.specs.declared.fault.EntryFault.TheVariants.{Invalid, Taken}
use Rattle.tasks.specs.declared.fault.SpaceFault.{SpaceFault}

-- a refusal that carries no other inside
abbrev pub plain : ℕ → Layer → ℕ → Refusal
plain n l p = record { number = n; layer = l; place = p; innermost = n }

-- the four questions of a record
abbrev pub record_tells : RecordFault → Refusal
record_tells (Number n) = plain 1 layer.Record n
record_tells (Times n) = plain 2 layer.Record n
record_tells (Window n) = plain 3 layer.Record n
record_tells (Section n) = plain 4 layer.Record n

-- a record's own fault is told as it is
abbrev pub entry_tells : EntryFault → Refusal
entry_tells (Invalid f) = record_tells f
entry_tells (Taken n) = plain 5 layer.Roster n

-- a space that is too short, with the bytes needed
abbrev pub space_tells : SpaceFault → Refusal
space_tells f = plain 20 layer.File f.needed
