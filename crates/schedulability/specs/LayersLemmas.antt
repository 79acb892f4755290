-- Each layer keeps both laws where the tests below it do. Assumes nothing.
use Rattle.std.specs.Prelude.{◌≡◌, ℕ, ◌<◌, Bool, true, ◌&&◌, Some, None, Option, slice_index_or, refl}
use Rattle.std.proofs.Common.{sym, ap, ◌∙◌}
use Rattle.std.proofs.lemmas.Bool.{and_parts, and_from, lt-ltb}
use Rattle.tasks.specs.Changes.{Emptied, changed_places}
use Rattle.tasks.specs.Sets.{excluding}
use Rattle.tasks.specs.declared.kind.Kind.{Kind}
use Rattle.tasks.specs.declared.kind.Kind.TheVariants.{Tolerable, Strict}
use Rattle.tasks.specs.declared.row.Row.{Row}
use Rattle.tasks.specs.declared.table.Table.{Table}
use Rattle.tasks.proofs.Changing.{changed_emptied}
use Rattle.tasks.proofs.Same.{same_table}
use Rattle.schedulability.specs.Laws.{Meaning, Raise, Removal, Alike}
use Rattle.schedulability.specs.Layers.{both, by_kind, by_place, strictly, shorter, longer, reserved, reserved_table}
use Rattle.schedulability.specs.Proper.{proper, guarded}
use Rattle.schedulability.specs.Guards.{guarded_raise, guarded_removal, other_place}

module _ (one other : Meaning) where
  -- a pair keeps both laws
  pub both_raise : Raise one → Raise other → Raise (guarded (both one other))
  both_raise a b = guarded_raise (both one other) (λ t k h j _ y. let p = and_parts (one t k h) (other t k h) y in and_from _ _ (a t k h j p.0) (b t k h j p.1))

  pub both_removal : Removal one → Removal other → Removal (guarded (both one other))
  both_removal a b = guarded_removal (both one other) (λ t u k h j e n _ y. let p = and_parts (one t k h) (other t k h) y in and_from _ _ (a t u k h j e n p.0) (b t u k h j e n p.1))

-- a place's answer stays yes where the answer given does
by_any_place : (o : Option Row) (a b : Bool) → (a ≡ true → b ≡ true) → by_place o a ≡ true → by_place o b ≡ true
by_any_place (Some r) a b f y = of_kind r.kind y where
  of_kind : (k : Kind) → by_kind k a ≡ true → by_kind k b ≡ true
  of_kind Tolerable e = refl
  of_kind Strict e = f e
by_any_place None a b f y = y

and_from_left : (a b : Bool) → a ≡ true → (a && b) ≡ b
and_from_left a b e = ap (λ x. x && b) e

-- the changed table with a task taken off
pub reserved_emptied : (n : ℕ) (t u : Table) (j : ℕ) → Emptied t j u → Emptied (reserved_table n t) j (reserved_table n u)
reserved_emptied n t u j e = ap (changed_places (shorter n)) e ∙ changed_emptied (shorter n) t.places j

module _ (says : Meaning) where
  -- a test that asks only about strict tasks keeps both laws
  pub strictly_raise : Raise says → Raise (guarded (strictly says))
  strictly_raise a = guarded_raise (strictly says) (λ t k h j _ y. by_any_place (slice_index_or t.places k None) (says t k h) (says t k (excluding h j)) (a t k h j) y)

  pub strictly_removal : Removal says → Removal (guarded (strictly says))
  strictly_removal a = guarded_removal (strictly says) (λ t u k h j e n _ y. ap (λ o. by_place o (says u k (excluding h j))) (other_place t u k j e n) ∙ by_any_place (slice_index_or t.places k None) (says t k h) (says u k (excluding h j)) (a t u k h j e n) y)

module _ (n : ℕ) (says : Meaning) where
  -- a test that asks about shorter deadlines keeps both laws
  pub reserved_raise : Raise says → Raise (guarded (reserved n says))
  reserved_raise a = guarded_raise (reserved n says) (λ t k h j _ y. let p = and_parts (longer n (slice_index_or t.places k None)) _ y in and_from _ _ p.0 (a (reserved_table n t) k h j p.1))

  pub reserved_removal : Removal says → Removal (guarded (reserved n says))
  reserved_removal a = guarded_removal (reserved n says) (λ t u k h j e m _ y.
      let p = and_parts (longer n (slice_index_or t.places k None)) _ y in
      and_from _ _ (ap (longer n) (other_place t u k j e m) ∙ p.0) (a (reserved_table n t) (reserved_table n u) k h j (reserved_emptied n t u j e) m p.1))

  -- an answer of the test below for the changed table is the layer's own, where the opening question and the deadline let it be asked
  pub reserved_asked : (t u : Table) (k h : ℕ) (r : Row) (b : Bool) → b ≡ says u k h → true ≡ proper t k h → Some r ≡ slice_index_or t.places k None → n < r.deadline → u.places ≡ changed_places (shorter n) t.places → b ≡ guarded (reserved n says) t k h
  reserved_asked t u k h r b a p e l c =
      a ∙ ap (λ v. says v k h) (same_table u (reserved_table n t) c)
      ∙ sym (and_from_left (proper t k h) (reserved n says t k h) (sym p) ∙ and_from_left (longer n (slice_index_or t.places k None)) (says (reserved_table n t) k h) (ap (longer n) (sym e) ∙ lt-ltb n r.deadline l))

  -- tests that mean the same below mean the same under the layer
  pub reserved_alike : (told : Meaning) → Alike told says → Alike (guarded (reserved n told)) (guarded (reserved n says))
  reserved_alike told a t k h = ap (λ b. proper t k h && (longer n (slice_index_or t.places k None) && b)) (a (reserved_table n t) k h)
