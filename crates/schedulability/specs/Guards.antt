-- The question before every rule keeps both laws, so a rule need keep them only where it is answered yes. Assumes nothing.
use Rattle.std.specs.Prelude.{◌≡◌, ℕ, zero, suc, ◌/◌, ◌%◌, Bool, true, false, not, ◌&&◌, ◌||◌, List, [], ◌∷◌, get_or, is_some, None, Decides, Option, ◌==◌, ◌≢◌, slice_index_or, refl}
use Rattle.std.proofs.Common.{sym, ap, ◌∙◌, subst, inl, inr, arith}
use borrow.Author.Tests.{clash}
use Rattle.std.proofs.lemmas.List.{get_or-set_other}
use Rattle.std.proofs.lemmas.Bool.{and_parts, and_from, cases_Bool, not-true, not_from_false, eqb-true, eq-eqb}
use Rattle.tasks.specs.Changes.{Emptied}
use Rattle.tasks.specs.Orders.{in_use}
use Rattle.tasks.specs.Sets.{member, excluding}
use Rattle.tasks.specs.declared.row.Row.{Row}
use Rattle.tasks.specs.declared.table.Table.{Table}
use Rattle.tasks.proofs.Sets.{member_zero, member_suc, member_none, member_excluding, bits_from_members}
use Rattle.schedulability.specs.Laws.{Meaning, Raise, Removal}
use Rattle.schedulability.specs.Proper.{Proper, proper, all_in_use, guarded}

-- a set with no member has no bits
no_bits : (h : ℕ) → ((j : ℕ) → member h j ≢ true) → h ≡ 0
no_bits h n = bits_from_members h 0 (λ j. elim (cases_Bool (member h j)) [ inl y ↦ absurd (n j y) | inr f ↦ f ∙ sym (member_none j) ])

even : (h : ℕ) → (h % 2 ≢ 1) → h % 2 ≡ 0
even h n = grind arith

-- the walk over the places says yes to a set of tasks in use
all_in_use_from : (h : ℕ) (ps : List (Option Row)) → ((j : ℕ) → member h j ≡ true → in_use ps j ≡ true) → all_in_use h ps ≡ true
all_in_use_from h [] s = eq-eqb h 0 (no_bits h (λ j y. clash (s j y)))
all_in_use_from h (p ∷ ps) s = and_from _ _ (first (is_some p) refl) (all_in_use_from (h / 2) ps (λ j y. s (suc j) (member_suc h j ∙ y))) where
  first : (b : Bool) → is_some p ≡ b → (b || h % 2 == 0) ≡ true
  first true e = refl
  first false e = eq-eqb (h % 2) 0 (even h (λ o. clash (sym e ∙ s 0 (member_zero h ∙ eq-eqb (h % 2) 1 o))))

-- a set that it says yes to has only tasks in use
all_in_use_to : (h : ℕ) (ps : List (Option Row)) → all_in_use h ps ≡ true → (j : ℕ) → member h j ≡ true → in_use ps j ≡ true
all_in_use_to h [] e j y = absurd (clash (sym (member_none j) ∙ ap (λ x. member x j) (sym (eqb-true h 0 e)) ∙ y))
all_in_use_to h (p ∷ ps) e zero y = first (is_some p) (and_parts _ _ e).0 where
  first : (b : Bool) → (b || h % 2 == 0) ≡ true → b ≡ true
  first true q = refl
  first false q = absurd (let a = eqb-true (h % 2) 0 q in let b = eqb-true (h % 2) 1 (sym (member_zero h) ∙ y) in omega arith)
all_in_use_to h (p ∷ ps) e (suc j) y = all_in_use_to (h / 2) ps (and_parts _ _ e).1 j (sym (member_suc h j) ∙ y)

-- a yes is the question answered yes
pub proper_means : (t : Table) (k h : ℕ) → proper t k h ≡ true → Proper t k h
proper_means t k h e =
    let a = and_parts (in_use t.places k) _ e in
    let b = and_parts (not (member h k)) _ a.1 in
    (a.0, not-true (member h k) b.0, all_in_use_to h t.places b.1)

-- the question answered yes is a yes
pub proper_from : (t : Table) (k h : ℕ) → Proper t k h → proper t k h ≡ true
proper_from t k h (a, b, c) = and_from _ _ a (and_from _ _ (not_from_false (member h k) b) (all_in_use_from h t.places c))

-- the yes or no decides the question
pub proper_decides : (t : Table) (k h : ℕ) → Decides (proper t k h) (Proper t k h)
proper_decides t k h = (proper_means t k h, proper_from t k h)

member_less : (h j i : ℕ) → member (excluding h j) i ≡ true → member h i ≡ true
member_less h j i e = (and_parts (member h i) _ (sym (member_excluding h j i) ∙ e)).0

stays_out : (h j k : ℕ) → member h k ≡ false → member (excluding h j) k ≡ false
stays_out h j k e = member_excluding h j k ∙ ap (λ b. b && not (k == j)) e

-- the question is still answered yes when one task moves from above to below
pub raised : (t : Table) (k h j : ℕ) → Proper t k h → Proper t k (excluding h j)
raised t k h j (a, b, c) = (a, stays_out h j k b, λ i y. c i (member_less h j i y))

-- another place is as it was
pub other_place : (t u : Table) (k j : ℕ) → Emptied t j u → (j ≢ k) → slice_index_or u.places k None ≡ slice_index_or t.places k None
other_place t u k j e n = ap (λ ps. get_or ps k None) e ∙ get_or-set_other t.places j k None None (λ q. n (sym q))

not_itself : (h j : ℕ) → member (excluding h j) j ≢ true
not_itself h j y = clash (sym (ap not (eq-eqb j j refl)) ∙ (and_parts (member h j) _ (sym (member_excluding h j j) ∙ y)).1)

-- the question is still answered yes when another task is taken off the table and out of the set
pub removed : (t u : Table) (k h j : ℕ) → Emptied t j u → (j ≢ k) → Proper t k h → Proper u k (excluding h j)
removed t u k h j e n (a, b, c) =
    (ap is_some (other_place t u k j e n) ∙ a, stays_out h j k b, λ i y. ap is_some (other_place t u i j e (λ q. not_itself h j (subst (λ m. member (excluding h j) m ≡ true) (sym q) y))) ∙ c i (member_less h j i y))

module _ (rule : Meaning) where
  -- a rule that keeps a yes under a raise, where it is asked, keeps it with the question before it
  pub guarded_raise : ((t : Table) (k h j : ℕ) → Proper t k h → rule t k h ≡ true → rule t k (excluding h j) ≡ true) → Raise (guarded rule)
  guarded_raise r t k h j y =
      let p = and_parts (proper t k h) (rule t k h) y in
      let q = proper_means t k h p.0 in
      and_from _ _ (proper_from t k (excluding h j) (raised t k h j q)) (r t k h j q p.1)

  -- the same for a removal
  pub guarded_removal : ((t u : Table) (k h j : ℕ) → Emptied t j u → (j ≢ k) → Proper t k h → rule t k h ≡ true → rule u k (excluding h j) ≡ true) → Removal (guarded rule)
  guarded_removal r t u k h j e n y =
      let p = and_parts (proper t k h) (rule t k h) y in
      let q = proper_means t k h p.0 in
      and_from _ _ (proper_from u k (excluding h j) (removed t u k h j e n q)) (r t u k h j e n q p.1)
