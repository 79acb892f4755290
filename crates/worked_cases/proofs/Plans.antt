-- Plans and refusals of tables with two tasks, from a few answers of the test. Assumes nothing.
use Rattle.std.proofs.Common.{◌≡◌, ℕ, ◌<◌, true, false, ◌||◌, eqb, [], ◌∷◌, sym, refl, ◌∙◌, subst, inl, inr, arith}
use borrow.Author.Tests.{clash}
use Rattle.std.proofs.lemmas.Bool.{or_cases, or_right, eqb-true, eq-eqb}
use Rattle.tasks.specs.Orders.{Lists}
use Rattle.tasks.specs.Sets.{member, including, excluding}
use Rattle.tasks.specs.declared.table.Table.{Table}
use Rattle.tasks.proofs.Sets.{member_none, member_including}
use Rattle.demand.specs.declared.mode.Mode.TheVariants.{Normal, Abnormal}
use Rattle.schedulability.specs.Laws.{Meaning, Raise}
use Rattle.schedulability.specs.LayersLemmas.{both_raise, strictly_raise}
use Rattle.tests.specs.Guarantee.{guaranteed}
use Rattle.tests.specs.Keeps.{in_time_raise}
use Rattle.priority.specs.Fillings.{Stuck, LeftOver}
use Rattle.priority.specs.Passing.{named}
use Rattle.priority.specs.Plans.{deadline, TriedBefore, FirstYes, IsPlan}
use Rattle.priority.proofs.Judging.{each_none, each_more}
use Rattle.priority.proofs.Named.{named_in_use}
use Rattle.priority.proofs.Planning.{left_no_order}
use Rattle.worked_cases.specs.Cases.{Refused}

pub guaranteed_raise : Raise guaranteed
guaranteed_raise = both_raise _ _ (in_time_raise Normal) (strictly_raise _ (in_time_raise Abnormal))

nobody : (j : ℕ) → member 0 j ≡ true → ⊥
nobody j m = clash (sym (member_none j) ∙ m)

only : (a j : ℕ) → member (named (a ∷ [])) j ≡ true → j ≡ a
only a j m = elim (or_cases (member 0 j) (eqb j a) (sym (member_including 0 a j) ∙ m)) [ inl n ↦ absurd (nobody j n) | inr e ↦ eqb-true j a e ]

-- a task that is due earlier is not tried first
pub due_earlier : (t : Table) (a b x y : ℕ) → deadline t a ≡ x → deadline t b ≡ y → x < y → TriedBefore t a b → ⊥
due_earlier t a b x y e f l (inl d) = omega arith
due_earlier t a b x y e f l (inr (d, n)) = omega arith

module _ (says : Meaning) (t : Table) where
  pub two_planned : (a b : ℕ) → Lists (a ∷ b ∷ []) t.places → says t a 0 ≡ true → says t b (named (a ∷ [])) ≡ true
      → (TriedBefore t a b → says t a (excluding (including (named (a ∷ [])) b) a) ≡ false) → IsPlan says t (a ∷ b ∷ [])
  two_planned a b l ya yb na = (l, each_more P (a ∷ []) b (each_more P [] a (each_none P) (ya, λ j m. absurd (nobody j m))) (yb, λ j m x. not_first j (only a j m) x)) where
    P : ℕ → ℕ → Type 0
    P = FirstYes says t

    not_first : (j : ℕ) → j ≡ a → TriedBefore t j b → says t j (excluding (including (named (a ∷ [])) b) j) ≡ false
    not_first j e x = subst (λ y. TriedBefore t y b → says t y (excluding (including (named (a ∷ [])) b) y) ≡ false) (sym e) na x

  -- neither gets a yes with the other above
  pub two_left : Raise says → (a b : ℕ) → Lists (a ∷ b ∷ []) t.places → says t a (excluding (named (a ∷ b ∷ [])) a) ≡ false → says t b (excluding (named (a ∷ b ∷ [])) b) ≡ false → Refused says t (named (a ∷ b ∷ []))
  two_left raise a b l na nb = (left_no_order says t raise (named (a ∷ b ∷ [])) a left (member_including (named (b ∷ [])) a a ∙ own), left) where
    stuck : Stuck says t (named (a ∷ b ∷ []))
    stuck k m = elim (or_cases (member (named (b ∷ [])) k) (eqb k a) (sym (member_including (named (b ∷ [])) a k) ∙ m)) [
      | inl n ↦ subst (λ y. says t y (excluding (named (a ∷ b ∷ [])) y) ≡ false) (sym (only b k n)) nb
      | inr e ↦ subst (λ y. says t y (excluding (named (a ∷ b ∷ [])) y) ≡ false) (sym (eqb-true k a e)) na
    ]

    left : LeftOver says t (named (a ∷ b ∷ []))
    left = (named (a ∷ b ∷ []), [], named_in_use (a ∷ b ∷ []) t.places l, refl, stuck)

    own : (member (named (b ∷ [])) a || eqb a a) ≡ true
    own = or_right _ _ (eq-eqb a a refl)

  -- the second takes the lowest place, and the first gets a no above it
  pub first_left : Raise says → (a b : ℕ) → Lists (a ∷ b ∷ []) t.places → member (named (a ∷ b ∷ [])) b ≡ true → says t b (excluding (named (a ∷ b ∷ [])) b) ≡ true → excluding (named (a ∷ b ∷ [])) b ≡ named (a ∷ [])
      → says t a (excluding (named (a ∷ [])) a) ≡ false → Refused says t (named (a ∷ []))
  first_left raise a b l m yb e na = (left_no_order says t raise (named (a ∷ [])) a left (member_including 0 a a ∙ or_right _ _ (eq-eqb a a refl)), left) where
    left : LeftOver says t (named (a ∷ []))
    left = (named (a ∷ b ∷ []), b ∷ [], named_in_use (a ∷ b ∷ []) t.places l, (m, yb, e), λ k n. subst (λ y. says t y (excluding (named (a ∷ [])) y) ≡ false) (sym (only a k n)) na)
