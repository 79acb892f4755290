-- The yes or no of each test is what it says in words. Assumes nothing.
use Rattle.std.proofs.Common.{◌≡◌, ℕ, zero, suc, ◌+◌, ◌-◌, ◌<◌, ◌≤◌, Bool, true, false, cond, ◌||◌, eqb, leb, get_or, Some, None, Decides, Option, sym, refl, ap, subst, inl, inr, arith}
use borrow.Author.Tests.{clash}
use Rattle.std.proofs.lemmas.List.{get_or_past}
use Rattle.std.proofs.lemmas.Bool.{and_parts, and_from, leb-true, le-leb, cases_lt, eqb-false, ne_eqb, or_from, cond-false}
use Rattle.tasks.specs.Sets.{member}
use Rattle.tasks.specs.declared.row.Row.{Row}
use Rattle.tasks.specs.declared.table.Table.{Table}
use Rattle.demand.specs.Demand.{demand, search_end}
use Rattle.demand.specs.Present.{some_up_to, present}
use Rattle.demand.specs.declared.mode.Mode.{Mode}
use Rattle.demand.specs.declared.mode.Mode.TheVariants.{Normal}
use Rattle.demand.proofs.Present.{some_at, some_found}
use Rattle.schedulability.specs.Laws.{Meaning}
use Rattle.schedulability.specs.Proper.{Proper, proper, guarded}
use Rattle.schedulability.specs.Guards.{proper_means, proper_from}
use Rattle.tests.specs.Rules.{of_task, responds, largest, section_at, section_if_below, blocking, unblocked}
use Rattle.tests.specs.Words.{Served, InTimeSays, ServesBehind, SectionsSays}

pub served : (m : Mode) (t : Table) (r : Row) (h : ℕ) → present m t.places r h ≡ true → Served m t r h
served m t r h y = let f = some_found (λ n. leb (demand m t.places r h n) n) (search_end r) y in (f.0, f.1, f.2, leb-true _ _ f.3)

pub serving : (m : Mode) (t : Table) (r : Row) (h : ℕ) → Served m t r h → present m t.places r h ≡ true
serving m t r h (n, a, b, s) = some_at (λ i. leb (demand m t.places r h i) i) (search_end r) n a b (le-leb _ _ s)

-- a guarded rule, where the rule is told in words, if need be for a proper question alone
pub guarded_words : (rule : Meaning) (t : Table) (k h : ℕ) (P : Type 0) → (proper t k h ≡ true → rule t k h ≡ true → P) → (P → rule t k h ≡ true) → Decides (guarded rule t k h) (Proper t k h × P)
guarded_words rule t k h P to from = (λ y. let p = and_parts (proper t k h) _ y in (proper_means t k h p.0, to p.0 p.1), λ q. and_from _ _ (proper_from t k h q.0) (from q.1))

-- a question about the task at a place, where it is told in words for each row
row_words : (ask : Row → Bool) (Q : Row → Type 0) → ((r : Row) → Decides (ask r) (Q r)) → (o : Option Row) → Decides (of_task o ask) ((r : Row) × (o ≡ Some r) × Q r)
row_words ask Q each o = (to_row o refl, λ q. subst (λ p. of_task p ask ≡ true) (sym q.1) ((each q.0).1 q.2)) where
  to_row : (p : Option Row) → o ≡ p → of_task p ask ≡ true → (r : Row) × (o ≡ Some r) × Q r
  to_row (Some r) e y = (r, e, (each r).0 y)
  to_row None e y = absurd (clash y)

pub in_time_words : (m : Mode) (t : Table) (k h : ℕ) → Decides (guarded (responds m) t k h) (InTimeSays m t k h)
in_time_words m t k h =
    let d = row_words (λ r. present m t.places r h) (λ r. Served m t r h) (λ r. (served m t r h, serving m t r h)) (get_or t.places k None) in
    guarded_words (responds m) t k h _ (λ _. d.0) d.1

-- the largest is at most x where each is
largest_under : (n : ℕ) (f : ℕ → ℕ) (x : ℕ) → ((j : ℕ) → f j ≤ x) → largest n f ≤ x
unfolding largest
largest_under zero f x h = omega arith
largest_under (suc n) f x h = omega (arith, largest_under n f x h, h n)

under_largest : (n : ℕ) (f : ℕ → ℕ) (j : ℕ) → j < n → f j ≤ largest n f
unfolding largest
under_largest zero f j l = absurd (omega arith)
under_largest (suc n) f j l = elim (cases_lt j n) [ inl m ↦ omega (arith, under_largest n f j m) | inr m ↦ omega (arith, ap f (at_last m)) ] where
  at_last : n ≤ j → j ≡ n
  at_last m = omega arith

module _ (t : Table) (k h : ℕ) where
  in_table : (j : ℕ) (s : Row) → get_or t.places j None ≡ Some s → j < 32
  in_table j s e = elim (cases_lt j 32) [ inl l ↦ l | inr l ↦ absurd (let p = get_or_past t.places j None (omega (arith, t.full)) in grind arith) ]

  -- the section of a task below counts
  counts : (j : ℕ) (s : Row) → get_or t.places j None ≡ Some s → (j ≡ k → ⊥) → member h j ≡ false → s.section ≤ blocking t.places k h
  counts j s e n m =
      let c = cond-false (eqb j k || member h j) 0 (section_at (get_or t.places j None)) (or_from _ _ (ne_eqb j k n) m) in
      omega (arith, under_largest 32 (section_if_below t.places k h) j (in_table j s e), c, ap section_at e)

  -- and nothing else does
  only : (x y : ℕ) → x ≤ y → ((j : ℕ) (s : Row) → get_or t.places j None ≡ Some s → (j ≡ k → ⊥) → member h j ≡ false → x + s.section ≤ y) → x + blocking t.places k h ≤ y
  only x y l b = let u = largest_under 32 (section_if_below t.places k h) (y - x) by_task in omega arith where
    by_row : (j : ℕ) (o : Option Row) → get_or t.places j None ≡ o → (j ≡ k → ⊥) → member h j ≡ false → section_at o ≤ y - x
    by_row j (Some s) e n m = omega (arith, b j s e n m)
    by_row j None e n m = omega arith

    by_task : (j : ℕ) → section_if_below t.places k h j ≤ y - x
    by_task j = by_test (eqb j k) refl (member h j) refl where
      by_test : (p : Bool) → eqb j k ≡ p → (q : Bool) → member h j ≡ q → cond (p || q) 0 (section_at (get_or t.places j None)) ≤ y - x
      by_test true e q f = omega arith
      by_test false e true f = omega arith
      by_test false e false f = by_row j (get_or t.places j None) refl (eqb-false j k e) f

  behind : (r : Row) → some_up_to (λ n. leb (demand Normal t.places r h n + blocking t.places k h) n) (search_end r) ≡ true → (n : ℕ) × (1 ≤ n) × (n ≤ search_end r) × ServesBehind t k r h n
  behind r y =
      let f = some_found (λ n. leb (demand Normal t.places r h n + blocking t.places k h) n) (search_end r) y in
      let l = leb-true _ _ f.3 in
      (f.0, f.1, f.2, (omega arith, λ j s e n m. omega (arith, counts j s e n m)))

  from_behind : (r : Row) → ((n : ℕ) × (1 ≤ n) × (n ≤ search_end r) × ServesBehind t k r h n) → some_up_to (λ n. leb (demand Normal t.places r h n + blocking t.places k h) n) (search_end r) ≡ true
  from_behind r (n, a, b, (s, w)) = some_at (λ i. leb (demand Normal t.places r h i + blocking t.places k h) i) (search_end r) n a b (le-leb _ _ (only (demand Normal t.places r h n) n s w))

  pub sections_words : Decides (guarded unblocked t k h) (SectionsSays t k h)
  sections_words =
      let d =
      row_words (λ r. some_up_to (λ n. leb (demand Normal t.places r h n + blocking t.places k h) n) (search_end r)) (λ r. (n : ℕ) × (1 ≤ n) × (n ≤ search_end r) × ServesBehind t k r h n) (λ r. (behind r, from_behind r)) (get_or t.places k None) in
      guarded_words unblocked t k h _ (λ _. d.0) d.1
