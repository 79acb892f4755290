-- What the fault of a timetable tells. Assumes nothing.
use Rattle.tasks.specs.Refusals.{plain}
use Rattle.tasks.specs.declared.refusal.Refusal.{Refusal}
use Rattle.tasks.specs.declared.refusal.Layer.TheVariants as layer
use Rattle.timetable.specs.declared.fault.TimetableFault.{TimetableFault}
use Rattle.timetable.specs.declared.fault.TimetableFault.TheVariants.{Space, Task, Times, Distance}

-- the place told is the length of the job list, or the index of the job
abbrev pub timetable_tells : TimetableFault → Refusal
timetable_tells (Space n) = plain 8 layer.Timetable n
timetable_tells (Task i) = plain 9 layer.Timetable i
timetable_tells (Times i) = plain 10 layer.Timetable i
timetable_tells (Distance i) = plain 11 layer.Timetable i
