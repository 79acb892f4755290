-- How the entries of a drawing's two queues rank, and what stands in slots that hold none. Assumes nothing.
use Rattle.std.specs.Prelude.{Bool, ◌&&◌, ◌||◌, ◌==◌, nat_le, nat_lt}
use Rattle.timetable.specs.declared.entry.Coming.{Coming}
use Rattle.timetable.specs.declared.entry.Waiting.{Waiting}

-- the earlier release comes first
abbrev pub by_release : Coming → Coming → Bool
by_release x y = nat_le x.release y.release

-- an entry of zeros
abbrev pub no_coming : Coming
no_coming = record { release = 0; index = 0 }

-- the task that stands higher in the order goes first, and of one task the earlier release
abbrev pub by_place : Waiting → Waiting → Bool
by_place x y = nat_lt x.place y.place || (x.place == y.place && nat_le x.release y.release)

-- an entry of zeros
abbrev pub no_waiting : Waiting
no_waiting = record { place = 0; release = 0; index = 0; left = 0 }
