-- What writing bytes into a space handed in gives. Assumes nothing.
use Rattle.std.specs.Prelude.{◌≡◌, ℕ, ◌<◌, ◌≤◌, List, ◌++◌, length, drop, Ok, Err, Result}
use Rattle.tasks.specs.declared.fault.SpaceFault.{SpaceFault}

-- the bytes, the space before and after, and the answer: the bytes stand at the front of the space and nothing beyond them is touched, or
-- the space is too short and stays as it was
abbrev pub Written : List ℕ → List ℕ → List ℕ → Result ℕ SpaceFault → Type 0
Written bytes before after (Ok n) = (n ≡ length bytes) × (length bytes ≤ length before) × (after ≡ bytes ++ drop (length bytes) before)
Written bytes before after (Err f) = (f.needed ≡ length bytes) × (length before < length bytes) × (after ≡ before)
