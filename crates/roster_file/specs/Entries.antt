-- How a task and a number stand in a file. Assumes nothing.
use Rattle.std.specs.Prelude.{◌≡◌, ℕ, zero, suc, ◌+◌, ◌/◌, ◌%◌, ◌^◌, ◌<◌, ◌≤◌, cond, List, [], ◌∷◌, length, Some, None, Option, ◌==◌, slice_index, slice_index_or}
use Rattle.tasks.specs.Kinds.{kind_byte}
use Rattle.tasks.specs.declared.row.Row.{Row}
use Rattle.tasks.specs.declared.fault.EntryFault.{EntryFault}
use Rattle.tasks.specs.Tables.{EntryRefused}
use Rattle.tasks.specs.declared.order.Order.{Order}
use Rattle.roster_file.specs.declared.task_section.TaskEntry.{TaskEntry}
use Rattle.roster_file.specs.declared.fault.FileFault.{FileFault}
use Rattle.roster_file.specs.declared.fault.FileFault.TheVariants as fault
use Rattle.std.specs.List.{flat_map, AllByRecursion, slice_get}
use Rattle.std.specs.Option.{option_map, option_to_list}

-- so many bytes of a number, the lowest first
abbrev pub little_endian : ℕ → ℕ → List ℕ
little_endian zero n = []
little_endian (suc k) n = n % 256 ∷ little_endian k (n / 256)

-- a time takes four bytes
abbrev pub time_bytes : ℕ → List ℕ
time_bytes n = little_endian 4 n

-- a number takes one byte
abbrev pub number_bytes : ℕ → List ℕ
number_bytes n = n ∷ []

-- the times of a row in the sequence of the file
abbrev pub fields : Row → List ℕ
fields r = r.normal ∷ r.abnormal ∷ r.section ∷ r.deadline ∷ r.period ∷ []

-- how many bytes a task takes: its number, its kind, and four for each of five times
abbrev pub task_width : ℕ
task_width = 22

-- the entry of a task with this number and this row
abbrev pub task_of : ℕ → Row → TaskEntry
task_of n r = record { number = n; row = r }

-- the entry of the task at a place
abbrev pub tasks_in : List (Option Row) → ℕ → Option TaskEntry
tasks_in ps n = option_map (task_of n) (slice_index_or ps n None)

-- a task as it stands in a file
abbrev pub task_bytes : TaskEntry → List ℕ
task_bytes e = e.number ∷ kind_byte e.row.kind ∷ flat_map time_bytes (fields e.row)

-- each part fits the bytes that it has
abbrev pub TaskFits : TaskEntry → Type 0
TaskFits e = (e.number < 256) × AllByRecursion (λ n. n < 2 ^ 32) (fields e.row)

-- the bytes of a task name neither kind; told at the kind byte
abbrev pub NoKind : List ℕ → ℕ → FileFault → Type 0
NoKind bytes offset f = (2 ≤ slice_index bytes 1) × (f ≡ fault.Kind (offset + 1))

-- the rows that entries have under a number, in their sequence
abbrev pub under : ℕ → List TaskEntry → List Row
under n [] = []
under n (e ∷ es) = cond (e.number == n) (e.row ∷ under n es) (under n es)

-- the table holds under each number just what the entries have there: one row or none
abbrev pub Holds : List TaskEntry → List (Option Row) → Type 0
Holds es ps = (n : ℕ) → under n es ≡ option_to_list (slice_index_or ps n None)

-- the record at an offset is refused by the first question that is answered no, told beside the offset
abbrev pub NotEntered : List (Option Row) → TaskEntry → ℕ → FileFault → Type 0
NotEntered ps e offset f = (g : EntryFault) × (f ≡ fault.Entry (record { offset = offset; fault = g })) × EntryRefused ps e.number e.row g

-- an order keeps all the numbers, and there is none exactly where there are more than a table has places
abbrev pub KeptNumbers : Option Order → List ℕ → Type 0
KeptNumbers (Some o) numbers = o ≡ numbers
KeptNumbers None numbers = 32 < length numbers

-- the number at a place of an order, if there is one
abbrev pub numbers_in : Option Order → ℕ → Option ℕ
numbers_in (Some o) n = slice_get o n
numbers_in None n = None
