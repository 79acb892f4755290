-- What holds of every row in use, when a place is written. Assumes nothing.
use Rattle.std.proofs.Common.{◌≡◌, ℕ, zero, suc, ◌<◌, true, List, [], ◌∷◌, get_or, set, replicate, is_some, IfSome, Some, None, Option, sym, refl, ap, ◌∙◌, subst, inl, inr, arith}
use borrow.Author.Tests.{clash}
use Rattle.std.proofs.lemmas.List.{get_or_past}
use Rattle.std.proofs.lemmas.Bool.{cases_lt}
use Rattle.tasks.specs.Bounds.{Every, Times, Window, Section, Bounded}
use Rattle.tasks.specs.Orders.{in_use}
use Rattle.tasks.specs.declared.row.Row.{Row}
use Rattle.tasks.specs.declared.table.Table.{Table}

pub every_set : (P : Row → Type 0) (ps : List (Option Row)) (i : ℕ) (o : Option Row) → Every P ps → ((r : Row) → o ≡ Some r → P r) → Every P (set ps i o)
every_set P [] i o h k n r e = h n r e
every_set P (p ∷ ps) zero o h k zero r e = k r e
every_set P (p ∷ ps) zero o h k (suc n) r e = h (suc n) r e
every_set P (p ∷ ps) (suc i) o h k zero r e = h zero r e
every_set P (p ∷ ps) (suc i) o h k (suc n) r e = every_set P ps i o (λ m. h (suc m)) k n r e

-- the places of an empty table
pub none_at : (m i : ℕ) → get_or {A = Option Row} (replicate m None) i None ≡ None
none_at zero i = refl
none_at (suc m) zero = refl
none_at (suc m) (suc i) = none_at m i

pub every_none : (P : Row → Type 0) (m : ℕ) → Every P (replicate m None)
every_none P m n r e = absurd (grind (arith, none_at m n))

-- a place in use holds a row
pub some_row : (o : Option Row) → is_some o ≡ true → (r : Row) × (o ≡ Some r)
some_row (Some r) e = (r, refl)
some_row None e = absurd (clash e)

-- a number on the table is a number of a place
pub on_table : (t : Table) (n : ℕ) → in_use t.places n ≡ true → n < 32
on_table t n e = elim (cases_lt n 32) [ inl l ↦ l | inr l ↦ absurd (clash (sym (ap is_some (get_or_past t.places n None (omega (arith, t.full)))) ∙ e)) ]

pub at_some : (P : Row → Type 0) {s : Row} → P s → (r : Row) → Some s ≡ Some r → P r
at_some P {s} h r e = let q : s ≡ r = cc in subst P q h

pub bounded : (ps : List (Option Row)) (n : ℕ) → Every Times ps → Every Window ps → Every Section ps → IfSome (get_or ps n None) Bounded
bounded ps n t w s = by_any_place (get_or ps n None) (t n) (w n) (s n) where
  by_any_place : (o : Option Row) → ((r : Row) → o ≡ Some r → Times r) → ((r : Row) → o ≡ Some r → Window r) → ((r : Row) → o ≡ Some r → Section r) → IfSome o Bounded
  by_any_place (Some r) t w s = (t r refl, w r refl, s r refl)
  by_any_place None t w s = tt
