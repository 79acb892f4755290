-- What a queue holds. Assumes nothing.
use Rattle.std.specs.Prelude.{◌≡◌, ℕ, ◌-◌, List, [], ◌∷◌, ◌++◌, length, take, replicate, Some, None, Option}
use Rattle.queue.specs.declared.queue.Queue.{Queue}

-- the entries of a queue, as they lie in its slots
abbrev pub entries : {X : Type 0} {rank : _} → Queue X rank → List X
entries q = take q.count q.slots.now

-- how many entries a queue has slots for
abbrev pub capacity : {X : Type 0} {rank : _} → Queue X rank → ℕ
capacity q = length q.slots.now

-- both queues stand on one slice, have as many slots and the same blank
pub record SameSpace {X : Type 0} {rank : _} (q p : Queue X rank) : Type 0 where
  pub lent : p.slots.ghost_name ≡ q.slots.ghost_name
  pub room : capacity p ≡ capacity q
  pub blank : p.blank ≡ q.blank

-- the slots hold the entries, and then blanks
abbrev pub LaidOut : {X : Type 0} {rank : _} → Queue X rank → Type 0
LaidOut q = q.slots.now ≡ entries q ++ replicate (capacity q - length (entries q)) q.blank

-- what stands at the front of a list, if it has any entry
abbrev pub front : {X : Type 0} → List X → Option X
front [] = None
front (x ∷ xs) = Some x
