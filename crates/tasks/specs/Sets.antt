-- Sets of tasks as 32 bits, bit n for task n. Assumes nothing.
use Rattle.std.specs.Prelude.{ℕ, zero, suc, ◌+◌, ◌-◌, ◌/◌, ◌%◌, ◌^◌, Bool, cond, List, [], ◌∷◌, ◌==◌}

-- task n is a member of the set with these bits
abbrev pub member : ℕ → ℕ → Bool
member h n = h / 2 ^ n % 2 == 1

-- the set with task n
abbrev pub including : ℕ → ℕ → ℕ
including h n = cond (member h n) h (h + 2 ^ n)

-- the set without task n
abbrev pub excluding : ℕ → ℕ → ℕ
excluding h n = cond (member h n) (h - 2 ^ n) h

-- the members among the n lowest bits, rising, where the lowest bit stands for task k
unfoldable pub members_from : ℕ → ℕ → ℕ → List ℕ
members_from k zero h = []
members_from k (suc n) h = cond (h % 2 == 1) (k ∷ members_from (k + 1) n (h / 2)) (members_from (k + 1) n (h / 2))

-- the members of a set, each once, rising
abbrev pub members : ℕ → List ℕ
members h = members_from 0 32 h
