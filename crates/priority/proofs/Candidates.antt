-- The candidates for a place, tried one after the other. Assumes nothing.
use Rattle.std.proofs.Common.{◌≡◌, ℕ, true, false, not, ◌&&◌, ◌||◌, eqb, sym, ap, ◌∙◌, inl, inr}
use Rattle.std.proofs.lemmas.Bool.{cases_eq, eq-eqb, ne_eqb, or_right}
use Rattle.tasks.specs.Sets.{member, including, excluding}
use Rattle.tasks.specs.declared.table.Table.{Table}
use Rattle.tasks.proofs.Sets.{member_including, member_excluding, bits_from_members, and_true, or_false}
use Rattle.schedulability.specs.Laws.{Meaning}

-- a task taken off and put back
pub put_back : (a k : ℕ) → member a k ≡ true → including (excluding a k) k ≡ a
put_back a k m = bits_from_members _ _ (λ j. member_including (excluding a k) k j ∙ ap (λ b. b || eqb j k) (member_excluding a k j) ∙ at j) where
  at : (j : ℕ) → ((member a j && not (eqb j k)) || eqb j k) ≡ member a j
  at j = elim (cases_eq j k) [
    | inl e ↦ or_right _ _ (eq-eqb j k e) ∙ sym (ap (member a) e ∙ m)
    | inr n ↦ ap (λ b. (member a j && not b) || b) (ne_eqb j k n) ∙ or_false _ ∙ and_true _
  ]

module _ (says : Meaning) (t : Table) (a : ℕ) where
  -- the tasks of u are still untried, and the others of a got a no with the rest of a above
  abbrev pub Tried : ℕ → Type 0
  Tried u = ((j : ℕ) → member u j ≡ true → member a j ≡ true) × ((j : ℕ) → member a j ≡ true → member u j ≡ false → says t j (excluding a j) ≡ false)
