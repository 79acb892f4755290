-- Bytes laid over a space from a place on, as far as the space reaches. Assumes nothing.
use Rattle.std.specs.Prelude.{◌≡◌, ℕ, ◌+◌, ◌≤◌, List, [], ◌∷◌, ◌++◌, length, drop, slice_set}
use Rattle.listing.specs.declared.pen.Pen.{Pen}

-- a byte past the end is left out
unfoldable pub laid : ℕ → List ℕ → List ℕ → List ℕ
laid k [] s = s
laid k (b ∷ bs) s = laid (k + 1) bs (slice_set s k b)

-- the pen lays the text from its place on in the space that it keeps, and stands after it
pub record Lays (t : List ℕ) (before after : Pen) : Type 0 where
  pub same : after.space.ghost_name ≡ before.space.ghost_name
  pub ends : after.at ≡ before.at + length t
  pub lies : after.space.now ≡ laid before.at t before.space.now

-- the text is laid from the front of a space that it fits into, and r is its length
pub record Front (t before after : List ℕ) (r : ℕ) : Type 0 where
  pub ends : r ≡ length t
  pub lies : length t ≤ length before → after ≡ t ++ drop (length t) before
