-- A file as it is put together from the sections of a table and an order, what a file becomes that is read and written again, and what is
-- read back of a file that was written. Assumes nothing.
use Rattle.std.specs.Prelude.{◌≡◌, ℕ, List, [], ◌∷◌, ◌++◌, Some, None, Ok, Err, Option, Result}
use Rattle.tasks.specs.Orders.{Lists}
use Rattle.tasks.specs.declared.fault.SpaceFault.{SpaceFault}
use Rattle.tasks.specs.declared.order.Order.{Order}
use Rattle.tasks.specs.declared.table.Table.{Table}
use Rattle.roster_file.specs.Entries.{number_bytes, task_bytes, tasks_in}
use Rattle.roster_file.specs.Layout.{edition, Layout, Canonical, Refused}
use Rattle.roster_file.specs.Sections.{entries, section_bytes}
use Rattle.tasks.specs.Spaces.{Written}
use Rattle.roster_file.specs.declared.fault.RewriteFault.{RewriteFault}
use Rattle.roster_file.specs.declared.fault.RewriteFault.TheVariants.{File, Space}
use Rattle.std.specs.List.{slice_get}

-- the edition, the section of the tasks and the section of the order
unfoldable pub assembled : Table → List ℕ → List ℕ
assembled t order = edition ∷ (section_bytes task_bytes (entries (tasks_in t.places)) ++ section_bytes number_bytes (entries (slice_get order)))

-- the canonical file of a table and an order is written
abbrev pub WrittenAs : Table → List ℕ → List ℕ → List ℕ → Result ℕ SpaceFault → Type 0
WrittenAs t order before after r = (file : List ℕ) × Canonical file t order × Written file before after r

-- a file, the space before and after, and the answer: the canonical file of the same table and order is written, or the space is too short
-- for it; nothing is written where the order is left out though there are tasks, or where the file is refused
abbrev pub Rewritten : List ℕ → List ℕ → List ℕ → Result (Option ℕ) RewriteFault → Type 0
Rewritten file before after (Ok (Some n)) = (t : Table) × (order : List ℕ) × Layout file t order × WrittenAs t order before after (Ok n)
Rewritten file before after (Ok None) = (t : Table) × Layout file t [] × (Lists [] t.places → ⊥) × (after ≡ before)
Rewritten file before after (Err (Space f)) = (t : Table) × (order : List ℕ) × Layout file t order × WrittenAs t order before after (Err f)
Rewritten file before after (Err (File f)) = Refused file f × (after ≡ before)

-- the file itself is written, or the space is too short for it
abbrev pub Copied : List ℕ → List ℕ → List ℕ → Result (Option ℕ) RewriteFault → Type 0
Copied file before after (Ok (Some n)) = Written file before after (Ok n)
Copied file before after (Ok None) = ⊥
Copied file before after (Err (Space f)) = Written file before after (Err f)
Copied file before after (Err (File f)) = ⊥

-- a table and an order with the space before and after, what stood in a table and an order handed in, what stands there afterwards, and the
-- answer: the canonical file is written, and what is read from it is that table and that order, or the space is too short and both stay as
-- they were; the file that was written is never refused
abbrev pub Restored : Table → List ℕ → List ℕ → List ℕ → Table × Order → Table × Order → Result ℕ RewriteFault → Type 0
Restored t order before after held kept (Ok n) = WrittenAs t order before after (Ok n) × (kept.0 ≡ t) × (kept.1 ≡ order)
Restored t order before after held kept (Err (Space f)) = WrittenAs t order before after (Err f) × (kept ≡ held)
Restored t order before after held kept (Err (File f)) = ⊥
