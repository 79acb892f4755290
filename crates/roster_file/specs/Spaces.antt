-- What stands in a space after bytes are written into it from a place on. Assumes nothing.
use Rattle.std.specs.Prelude.{◌≡◌, ℕ, ◌+◌, ◌≤◌, List, length}
use Rattle.std.proofs.Math.Seq.{paste}

-- the bytes stand in the space from a place on, up to the next place, and all else there is as it was
pub record Put (at : ℕ) (bytes before after : List ℕ) (next : ℕ) : Type 0 where
  pub ends : next ≡ at + length bytes
  pub fits : next ≤ length before
  pub lies : after ≡ paste before at bytes (length bytes)
