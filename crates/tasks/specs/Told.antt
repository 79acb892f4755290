-- A refusal as a text. Assumes nothing.
use Rattle.std.specs.Prelude.{ℕ, List, ◌∷◌, ◌++◌, decimal, codes}
use Rattle.tasks.specs.declared.refusal.Layer.{Layer}
use Rattle.tasks.specs.declared.refusal.Layer.TheVariants.{Record, Roster, Timetable, Recovery, File, Pile}
use Rattle.tasks.specs.declared.refusal.Refusal.{Refusal}

-- the name of a layer
abbrev pub layer_name : Layer → List ℕ
layer_name Record = codes "Record"
layer_name Roster = codes "Roster"
layer_name Timetable = codes "Timetable"
layer_name Recovery = codes "Recovery"
layer_name File = codes "File"
layer_name Pile = codes "Pile"

-- its number, its layer and its place, parted by a space
abbrev pub refusal_line : Refusal → List ℕ
refusal_line r = decimal r.number ++ 32 ∷ layer_name r.layer ++ 32 ∷ decimal r.place
