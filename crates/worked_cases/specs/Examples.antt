-- The rows and tables of the worked cases. Assumes nothing.
use Rattle.std.specs.Prelude.{ℕ, ◌+◌, List, [], ◌∷◌, replicate, Some, None, slice_set, refl}
use Rattle.std.proofs.Common.{◌∙◌, arith, length-set}
use Rattle.schedule.specs.declared.job.Finish.{Finish}
use Rattle.schedule.specs.declared.job.Job.{Job}
use Rattle.tasks.specs.Bounds.{Times, Window, Section, Bounded}
use Rattle.tasks.specs.declared.kind.Kind.TheVariants.{Tolerable, Strict}
use Rattle.tasks.specs.declared.row.Row.{Row}
use Rattle.tasks.specs.declared.table.Table.{Table}
use Rattle.tasks.proofs.Places.{every_set, every_none, at_some}

-- the table with no task
abbrev pub bare : Table
bare = record { places = replicate 32 None; full = refl; times = every_none Times 32; window = every_none Window 32; section = every_none Section 32 }

-- the table with a row at a place
abbrev pub holding : Table → ℕ → (r : Row) → Bounded r → Table
holding t n r b = record {
  places = slice_set t.places n (Some r);
  full = length-set t.places n (Some r) ∙ t.full;
  times = every_set Times t.places n (Some r) t.times (at_some Times b.0);
  window = every_set Window t.places n (Some r) t.window (at_some Window b.1);
  section = every_set Section t.places n (Some r) t.section (at_some Section b.2);
}

-- a tolerable task that is in time without faults only
abbrev pub row1 : Row
row1 = record { kind = Tolerable; normal = 3; abnormal = 9; section = 0; deadline = 10; period = 10 }

-- a strict task
abbrev pub row2 : Row
row2 = record { kind = Strict; normal = 3; abnormal = 6; section = 0; deadline = 12; period = 12 }

-- a task with a short deadline, which a section below may hold up
abbrev pub row3 : Row
row3 = record { kind = Strict; normal = 2; abnormal = 2; section = 0; deadline = 5; period = 5 }

-- with a section of s ticks
abbrev pub row4 : ℕ → Row
row4 s = record { kind = Strict; normal = 4; abnormal = 4; section = s; deadline = 20; period = 20 }

-- with n ticks without a fault, and one more with it
abbrev pub light1 : ℕ → Row
light1 n = record { kind = Tolerable; normal = n; abnormal = n + 1; section = 0; deadline = 160; period = 160 }

-- a strict task that takes half of the processor
abbrev pub heavy2 : Row
heavy2 = record { kind = Strict; normal = 110; abnormal = 121; section = 0; deadline = 240; period = 240 }

-- tasks 1 and 2
abbrev pub pair : Table
pair = holding (holding bare 1 row1 (omega arith, omega arith, omega arith)) 2 row2 (omega arith, omega arith, omega arith)

-- tasks 3 and 4, with a section of task 4 of 3 ticks
abbrev pub short : Table
short = holding (holding bare 3 row3 (omega arith, omega arith, omega arith)) 4 (row4 3) (omega arith, omega arith, omega arith)

-- tasks 3 and 4, with a section of task 4 of 4 ticks
abbrev pub long : Table
long = holding (holding bare 3 row3 (omega arith, omega arith, omega arith)) 4 (row4 4) (omega arith, omega arith, omega arith)

-- tasks 1 and 2 with longer times: 60 ticks of task 1 are too many for task 2
abbrev pub crowded : Table
crowded = holding (holding bare 1 (light1 60) (omega arith, omega arith, omega arith)) 2 heavy2 (omega arith, omega arith, omega arith)

-- the same with 40 ticks
abbrev pub eased : Table
eased = holding (holding bare 1 (light1 40) (omega arith, omega arith, omega arith)) 2 heavy2 (omega arith, omega arith, omega arith)

-- a job of a task
abbrev pub job : ℕ → ℕ → ℕ → Job
job task release length = record { task = task; release = release; length = length }

-- two jobs of each of the tasks 1 and 2
abbrev pub jobs : List Job
jobs = job 1 0 9 ∷ job 2 0 6 ∷ job 2 12 6 ∷ job 1 10 3 ∷ []

-- when a job ends, and by how much it is late
abbrev pub ending : ℕ → ℕ → Finish
ending finish late = record { finish = finish; lateness = late }

-- how each of the jobs ends under the order 2, 1
abbrev pub endings : List Finish
endings = ending 21 11 ∷ ending 6 0 ∷ ending 18 0 ∷ ending 24 4 ∷ []
