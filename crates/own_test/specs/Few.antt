-- What the test asks. Assumes nothing.
use Rattle.std.specs.Prelude.{ℕ, length, nat_le}
use Rattle.tasks.specs.Sets.{members}
use Rattle.schedulability.specs.Laws.{Meaning}

-- at most so many tasks are above
abbrev pub few : ℕ → Meaning
few most t k h = nat_le (length (members h)) most
