-- An order looked at place by place. Assumes nothing.
use Rattle.std.proofs.Common.{◌≡◌, ℕ, ◌+◌, ◌<◌, ◌≤◌, cond, leb, ◌⊎◌, List, [], ◌∷◌, ◌++◌, length, get_or, take, drop, sym, refl, ap, ◌∙◌, subst, inl, inr, arith}
use Rattle.std.proofs.lemmas.List.{take_more, drop_more, take-append-drop, length-append}
use Rattle.std.proofs.lemmas.Bool.{cond-true, le-leb}
use Rattle.tasks.specs.Orders.{Lists}
use Rattle.tasks.specs.Sets.{including}
use Rattle.tasks.specs.declared.table.Table.{Table}
use Rattle.tasks.proofs.Listing.{listed_in_use}
use Rattle.tasks.proofs.Places.{on_table}
use Rattle.priority.specs.Passing.{named, AtEachPlace}
use Rattle.priority.proofs.Named.{named_more}

-- ---- one place more

no_place : (xs ys : List ℕ) (k : ℕ) → [] ≡ xs ++ k ∷ ys → ⊥
no_place xs ys k e = omega (arith, ap length e ∙ length-append xs (k ∷ ys))

-- a place of a list that is one longer is the last, or one of the list
last_or_before : (xs us ws : List ℕ) (k j : ℕ) → xs ++ k ∷ [] ≡ us ++ j ∷ ws → ((us ≡ xs) × (j ≡ k)) ⊎ ((vs : List ℕ) × (xs ≡ us ++ j ∷ vs))
last_or_before [] [] ws k j e = inl (refl, sym (ap (λ l. get_or l 0 0) e))
last_or_before [] (u ∷ us) ws k j e = absurd (no_place us ws j (ap (drop 1) e))
last_or_before (x ∷ xs) [] ws k j e = inr (xs, ap (λ y. y ∷ xs) (ap (λ l. get_or l 0 0) e))
last_or_before (x ∷ xs) (u ∷ us) ws k j e =
    let h : x ≡ u = ap (λ l. get_or l 0 0) e in
    elim (last_or_before xs us ws k j (ap (drop 1) e)) [
      | inl (a, b) ↦ inl (ap (λ y. y ∷ us) (sym h) ∙ ap (λ l. x ∷ l) a, b)
      | inr (vs, a) ↦ inr (vs, ap (λ y. y ∷ xs) h ∙ ap (λ l. u ∷ l) a)
    ]

module _ (P : ℕ → ℕ → Type 0) where
  pub each_none : AtEachPlace P []
  each_none xs ys k e = absurd (no_place xs ys k e)

  pub each_more : (xs : List ℕ) (k : ℕ) → AtEachPlace P xs → P (named xs) k → AtEachPlace P (xs ++ k ∷ [])
  each_more xs k p q us ws j e = elim (last_or_before xs us ws k j e) [
    | inl (a, b) ↦ subst (λ l. P (named l) j) (sym a) (subst (P (named xs)) (sym b) q)
    | inr (vs, a) ↦ p us vs j a
  ]

-- ---- the places of an order, one after the other

-- the task of the next place joins the set of those above
pub above_more : (o : List ℕ) (t : Table) (i h r : ℕ) → i < length o → Lists o t.places → h ≡ named (take i o)
    → r ≡ cond (leb (get_or o i 0) 31) (including h (get_or o i 0)) h → r ≡ named (take (i + 1) o)
above_more o t i h r l s e q =
    let x = get_or o i 0 in
    let few : x ≤ 31 = omega (arith, on_table t x (listed_in_use o t.places i l s)) in
    q ∙ cond-true (leb x 31) (including h x) h (le-leb x 31 few) ∙ ap (λ y. including y x) e ∙ sym (named_more (take i o) x) ∙ ap named (sym (take_more o i 0 l))

-- what stands before a place, there, and after it
pub at_place : (o : List ℕ) (i : ℕ) → i < length o → o ≡ take i o ++ get_or o i 0 ∷ drop (i + 1) o
at_place o i l = sym (take-append-drop i o) ∙ ap (λ y. take i o ++ y) (drop_more o i 0 l)
