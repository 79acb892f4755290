-- What a lawful roster file is and what it holds, and what each refusal says of the bytes. Assumes nothing.
use Rattle.std.specs.Prelude.{◌≡◌, ℕ, ◌+◌, ◌*◌, ◌<◌, ◌≤◌, ◌⊎◌, List, [], ◌∷◌, ◌++◌, length, ◌≢◌, slice_index}
use Rattle.tasks.specs.Orders.{Lists}
use Rattle.tasks.specs.Tables.{EntryRefused}
use Rattle.tasks.specs.declared.table.Table.{Table}
use Rattle.roster_file.specs.Entries.{task_bytes, task_width, TaskFits, Holds}
use Rattle.roster_file.specs.declared.task_section.TaskEntry.{TaskEntry}
use Rattle.roster_file.specs.declared.fault.FileFault.{FileFault}
use Rattle.roster_file.specs.declared.fault.FileFault.TheVariants as fault
use Rattle.std.specs.List.{flat_map, AllByRecursion}

-- the first byte of every file
abbrev pub edition : ℕ
edition = 1

-- an order may be left empty; otherwise it names each task once
abbrev pub Named : List ℕ → Table → Type 0
Named order t = (order ≡ []) ⊎ Lists order t.places

-- a lawful file: the edition, the tasks in any sequence after their count, the order after its count, and no more
pub record Layout (bytes : List ℕ) (t : Table) (order : List ℕ) : Type 0 where
  pub entries : List TaskEntry
  pub holds : Holds entries t.places
  pub named : Named order t
  pub file : bytes ≡ edition ∷ length entries ∷ (flat_map task_bytes entries ++ (length order ∷ order))

-- the numbers rise: each is below those after it
abbrev pub Rising : List TaskEntry → Type 0
Rising [] = Unit {0}
Rising (e ∷ es) = AllByRecursion (λ (f : TaskEntry). e.number < f.number) es × Rising es

-- a file as it is written: a lawful one whose tasks stand by rising number and whose order is named
pub record Canonical (bytes : List ℕ) (t : Table) (order : List ℕ) : Type 0 where
  pub layout : Layout bytes t order
  pub rising : Rising layout.entries
  pub named : Lists order t.places

-- what the bytes hold: this table and this order, and no others
abbrev pub HoldsJust : List ℕ → Table → List ℕ → Type 0
HoldsJust bytes t order = Layout bytes t order × ((u : Table) (other : List ℕ) → Layout bytes u other → (u ≡ t) × (other ≡ order))

-- the byte offset of record k, and of what follows k records
abbrev pub offset : ℕ → ℕ
offset k = 2 + task_width * k

-- the file begins with the edition, a lawful count and these records; every question put to them is answered yes, so that they fill a table
pub record Begun (bytes : List ℕ) (count : ℕ) (es : List TaskEntry) (t : Table) (rest : List ℕ) : Type 0 where
  pub few : count ≤ 32
  pub within : length es ≤ count
  pub holds : Holds es t.places
  pub file : bytes ≡ edition ∷ count ∷ (flat_map task_bytes es ++ rest)

-- the order's count or one of its numbers is missing
abbrev pub OrderCut : List ℕ → Type 0
OrderCut rest = (rest ≡ []) ⊎ ((m : ℕ) × (after : List ℕ) × (rest ≡ m ∷ after) × (length after < m))

-- after so many records of a count, the next record, the order's count or the order's next number is not whole
abbrev pub Short : ℕ → ℕ → List ℕ → Type 0
Short count read rest = ((read < count) × (length rest < task_width)) ⊎ ((read ≡ count) × OrderCut rest)

-- all questions before are answered yes, and the one that the fault names is not
abbrev pub Refused : List ℕ → FileFault → Type 0
Refused bytes fault.Edition = (rest : List ℕ) → bytes ≢ edition ∷ rest
Refused bytes (fault.Cut place) =
    (place ≡ length bytes) × ((bytes ≡ edition ∷ []) ⊎ ((count : ℕ) × (es : List TaskEntry) × (t : Table) × (rest : List ℕ) × Begun bytes count es t rest × Short count (length es) rest))
Refused bytes fault.Count = (count : ℕ) × (rest : List ℕ) × (bytes ≡ edition ∷ count ∷ rest) × (32 < count)
Refused bytes (fault.Kind place) =
    (count : ℕ) × (es : List TaskEntry) × (t : Table) × (rest : List ℕ) × Begun bytes count es t rest × (length es < count) × (task_width ≤ length rest) × (2 ≤ slice_index rest 1) × (place ≡ offset (length es) + 1)
Refused bytes (fault.Entry located) =
    (count : ℕ) × (es : List TaskEntry) × (t : Table) × (e : TaskEntry) × (rest : List ℕ) × Begun bytes count es t (task_bytes e ++ rest) × (length es < count) × TaskFits e × (located.offset ≡ offset (length es))
    × EntryRefused t.places e.number e.row located.fault
Refused bytes (fault.Order place) =
    (count : ℕ) × (es : List TaskEntry) × (t : Table) × (order : List ℕ) × (rest : List ℕ) × Begun bytes count es t (length order ∷ (order ++ rest)) × (length es ≡ count) × (place ≡ offset count) × (Named order t → ⊥)
Refused bytes (fault.Trailing place) =
    (count : ℕ) × (es : List TaskEntry) × (t : Table) × (order : List ℕ) × (b : ℕ) × (rest : List ℕ) × Begun bytes count es t (length order ∷ (order ++ (b ∷ rest))) × (length es ≡ count) × Named order t
    × (place ≡ offset count + 1 + length order)
