-- A task taken up at the end of an order. Assumes nothing.
use Rattle.std.proofs.Common.{◌≡◌, ℕ, ◌<◌, ◌≤◌, Bool, true, false, cond, ltb, List, [], ◌∷◌, ◌++◌, length, set, is_some, Some, None, Option, MatchOption, sym, refl, ◌∙◌, subst, arith, length-set, length-append}
use Rattle.std.proofs.lemmas.Bool.{cond-true, lt-ltb}
use Rattle.tasks.specs.Orders.{in_use, Lists}
use Rattle.tasks.specs.declared.order.Order.{Order}
use Rattle.tasks.specs.declared.row.Row.{Row}
use Rattle.tasks.specs.declared.standing.Standing.{Standing}
use Rattle.tasks.specs.declared.table.Table.{Table}
use Rattle.tasks.proofs.Few.{few}
pub use Rattle.tasks.proofs.Listing.{none_listed}
use Rattle.tasks.proofs.Listing.{occurs_append, put_listed}

-- a task put in an empty place is named at the end of the order
taken_up : (ps : List (Option Row)) (n : ℕ) (r : Row) (xs : List ℕ) → length ps ≡ 32 → n ≤ 31 → in_use ps n ≡ false → Lists xs ps → Lists (xs ++ n ∷ []) (set ps n (Some r))
taken_up ps n r xs f l e s = put_listed ps n r xs _ f (omega arith) e s (λ m. omega (arith, occurs_append m xs (n ∷ [])))

-- so there was room for it
room : (ps : List (Option Row)) (n : ℕ) (r : Row) (xs : List ℕ) → length ps ≡ 32 → n ≤ 31 → in_use ps n ≡ false → Lists xs ps → length xs < 32
room ps n r xs f l e s = omega (arith, few (xs ++ n ∷ []) (set ps n (Some r)) (length-set ps n (Some r) ∙ f) (taken_up ps n r xs f l e s), length-append xs (n ∷ []))

-- the order with the task at its end, as far as there is room, lists the table with the task in its place
pub more_listed : (t : Table) (q o : Order) (n : ℕ) (r : Row) (b : Bool) (ps : List (Option Row)) → Lists q t.places → n ≤ 31 → in_use t.places n ≡ false → ps ≡ set t.places n (Some r)
    → b ≡ ltb (length q) 32 → o ≡ cond b (q ++ n ∷ []) q → Lists o ps
more_listed t q o n r b ps s l e p y z =
    let k = room t.places n r q t.full l e s in
    let full = z ∙ cond-true {A = List ℕ} b _ _ (y ∙ lt-ltb (length q) 32 k) in
    subst (λ xs. Lists xs ps) (sym full) (subst (Lists (q ++ n ∷ [])) (sym p) (taken_up t.places n r q t.full l e s))

-- the two of which one is by the other stand together
pub stands : (t : Table) (o : Order) (s : Option Standing) → MatchOption s (Lists o t.places → ⊥) (λ s. (s.table ≡ t) × (s.order ≡ o)) → Lists o t.places → is_some s ≡ true
stands t o None m l = absurd (m l)
stands t o (Some s) m l = refl
