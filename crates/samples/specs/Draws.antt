-- The numbers of a linear congruential generator with a state of 64 bits. Assumes nothing.
use Rattle.std.specs.Prelude.{ℕ, ◌+◌, ◌*◌, ◌/◌, ◌%◌, ◌^◌, cond, ◌==◌}

-- the state that follows a state
abbrev pub next : ℕ → ℕ
next s = (s * 6364136223846793005 + 1442695040888963407) % 2 ^ 64

-- the number that a state gives below a bound: its low bits, which repeat soon, are left out; 0 below the bound 0
abbrev pub drawn : ℕ → ℕ → ℕ
drawn s bound = cond (bound == 0) 0 (s / 2 ^ 33 % bound)
