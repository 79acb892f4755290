-- What holds of every queue. Assumes nothing.
use Rattle.std.proofs.Common.{◌≡◌, ℕ, ◌<◌, List, [], ◌∷◌, length, get_or, slice_get, replicate, Some, None, refl, ap, ◌∙◌, arith}
use Rattle.std.proofs.lemmas.List.{length-take-le}
use Rattle.queue.specs.Queues.{entries, capacity, front, LaidOut, SameSpace}
use Rattle.queue.specs.declared.queue.Queue.{Queue}
use Rattle.queue.proofs.Slots.{blank_list, blank_behind}

module _ {X : Type 0} where
  -- a list with nothing at its front is empty
  pub no_front : (xs : List X) → None ≡ front xs → xs ≡ []
  no_front [] e = refl
  no_front (x ∷ xs) e = absurd (cc)

  -- and what stands there can be read
  pub front_read : (xs : List X) (x : X) → Some x ≡ front xs → (0 < length xs) × (x ≡ get_or xs 0 x)
  front_read [] x e = absurd (cc)
  front_read (y ∷ ys) x e = (omega arith, cc)

  pub front_is : (xs : List X) → slice_get xs 0 ≡ front xs
  front_is [] = refl
  front_is (x ∷ xs) = refl

  module _ {rank : _} where
    pub same_space : (q : Queue X rank) → SameSpace q q
    same_space q = record { lent = refl; room = refl; blank = refl }

    pub space_trans : (q p r : Queue X rank) → SameSpace q p → SameSpace p r → SameSpace q r
    space_trans q p r s t = record { lent = t.lent ∙ s.lent; room = t.room ∙ s.room; blank = t.blank ∙ s.blank }

    module _ (q : Queue X rank) where
      pub entries_length : length (entries q) ≡ q.count
      entries_length = length-take-le q.count q.slots.now q.room

      pub laid_out : LaidOut q
      laid_out = blank_behind q.slots.now q.count q.blank q.room q.clear

      -- an empty queue leaves nothing but blanks
      pub emptied : entries q ≡ [] → q.slots.now ≡ replicate (capacity q) q.blank
      emptied e = let len = ap length e in blank_list q.slots.now q.blank (λ k l. q.clear k (omega (arith, entries_length)))

    -- so slots that were lent to a queue are blank once it is empty again
    pub given_back : (p q : Queue X rank) (n : ℕ) (blank : X) → capacity p ≡ n → p.blank ≡ blank → SameSpace p q → entries q ≡ [] → q.slots.now ≡ replicate n blank
    given_back p q n blank room same s e = emptied q e ∙ (λ i. replicate ((s.room ∙ room) i) ((s.blank ∙ same) i))
