-- The bounds that a task record keeps, and its refusal by the first question that is answered no. Assumes nothing.
use Rattle.std.specs.Prelude.{◌≡◌, ℕ, ◌≤◌, List, Some, None, Option, slice_index_or}
use Rattle.tasks.specs.declared.row.Row.{Row}
use Rattle.tasks.specs.declared.fault.RecordFault.{RecordFault}
use Rattle.tasks.specs.declared.fault.RecordFault.TheVariants as refused

-- the longest time of any kind, in ticks
abbrev pub longest : ℕ
longest = 1000000

-- a number that a table has a place for
abbrev pub Numbered : ℕ → Type 0
Numbered n = n ≤ 31

-- the question about the normal and the abnormal time
abbrev pub Times : Row → Type 0
Times r = (1 ≤ r.normal) × (r.normal ≤ r.abnormal) × (r.abnormal ≤ longest)

-- the question about the deadline and the period
abbrev pub Window : Row → Type 0
Window r = (1 ≤ r.deadline) × (r.deadline ≤ r.period) × (r.period ≤ longest)

-- the question about the stretch that may not be interrupted
abbrev pub Section : Row → Type 0
Section r = r.section ≤ r.normal

-- the row of a lawful record
abbrev pub Bounded : Row → Type 0
Bounded r = Times r × Window r × Section r

-- every question of a record is answered yes
abbrev pub Lawful : ℕ → Row → Type 0
Lawful n r = Numbered n × Bounded r

-- the questions before this one are answered yes, and this one is not; the place told is the number given
abbrev pub RecordRefused : ℕ → Row → RecordFault → Type 0
RecordRefused n r (refused.Number p) = (p ≡ n) × (Numbered n → ⊥)
RecordRefused n r (refused.Times p) = (p ≡ n) × Numbered n × (Times r → ⊥)
RecordRefused n r (refused.Window p) = (p ≡ n) × Numbered n × Times r × (Window r → ⊥)
RecordRefused n r (refused.Section p) = (p ≡ n) × Numbered n × Times r × Window r × (Section r → ⊥)

-- what holds of every row in use
abbrev pub Every : (Row → Type 0) → List (Option Row) → Type 0
Every P ps = (n : ℕ) (r : Row) → slice_index_or ps n None ≡ Some r → P r
