-- What each layer means, over the meanings of the tests below it. Assumes nothing.
use Rattle.std.specs.Prelude.{ℕ, ◌-◌, max, Bool, true, false, ◌&&◌, Some, None, Option, nat_lt, slice_index_or}
use Rattle.std.proofs.Common.{◌∙◌, arith}
use Rattle.std.proofs.lemmas.List.{length-map}
use Rattle.std.specs.Option.{option_map}
use Rattle.tasks.specs.Bounds.{Times, Window, Section}
use Rattle.tasks.specs.Changes.{changed_places}
use Rattle.tasks.specs.declared.kind.Kind.{Kind}
use Rattle.tasks.specs.declared.kind.Kind.TheVariants.{Tolerable, Strict}
use Rattle.tasks.specs.declared.row.Row.{Row}
use Rattle.tasks.specs.declared.table.Table.{Table}
use Rattle.tasks.proofs.Changing.{every_changed}
use Rattle.schedulability.specs.Laws.{Meaning}

-- both say yes
abbrev pub both : Meaning → Meaning → Meaning
both one other t k h = one t k h && other t k h

-- yes for a tolerable kind, and the answer given for a strict one
abbrev pub by_kind : Kind → Bool → Bool
by_kind Tolerable b = true
by_kind Strict b = b

-- the same for what a place holds, and no for an empty place
abbrev pub by_place : Option Row → Bool → Bool
by_place (Some r) b = by_kind r.kind b
by_place None b = false

-- yes to a tolerable task, and for a strict one what the test below says
abbrev pub strictly : Meaning → Meaning
strictly says t k h = by_place (slice_index_or t.places k None) (says t k h)

-- the row with its deadline shorter by n, and at least 1
abbrev pub shorter : ℕ → Row → Row
shorter n r = record { kind = r.kind; normal = r.normal; abnormal = r.abnormal; section = r.section; deadline = max (r.deadline - n) 1; period = r.period }

-- such a row has a deadline within its period
pub shorter_window : (n : ℕ) (r : Row) → Window r → Window (shorter n r)
shorter_window n r w = (omega arith, omega arith, w.2)

-- the table with every deadline shorter by n, and at least 1
abbrev pub reserved_table : ℕ → Table → Table
reserved_table n t = record {
  places = changed_places (shorter n) t.places;
  full = length-map t.places (option_map (shorter n)) ∙ t.full;
  times = every_changed Times (shorter n) t.places t.times;
  window = every_changed Window (shorter n) t.places (λ i r e. shorter_window n r (t.window i r e));
  section = every_changed Section (shorter n) t.places t.section;
}

-- the deadline is above n
abbrev pub longer : ℕ → Option Row → Bool
longer n (Some r) = nat_lt n r.deadline
longer n None = false

-- the deadline is above n, and the test below says yes with every deadline shorter by n
abbrev pub reserved : ℕ → Meaning → Meaning
reserved n says t k h = longer n (slice_index_or t.places k None) && says (reserved_table n t) k h
