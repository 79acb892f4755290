-- A yes with a set above stays a yes with any part of it above. Assumes nothing.
use Rattle.std.proofs.Common.{◌≡◌, ℕ, zero, suc, ◌+◌, ◌<◌, ◌≤◌, true, false, not, ◌&&◌, sym, ap, ◌∙◌, subst, inl, inr, arith}
use borrow.Author.Tests.{clash}
use Rattle.std.proofs.lemmas.Bool.{cases_Bool, cases_lt, ne_eqb}
use Rattle.tasks.specs.Sets.{member, excluding}
use Rattle.tasks.specs.declared.table.Table.{Table}
use Rattle.tasks.proofs.Sets.{member_past, member_excluding, and_true, bits_from_members, below_pow}
use Rattle.schedulability.specs.Laws.{Meaning, Raise}
use Rattle.priority.proofs.Walks.{stays, gone}

-- every task of the one set is in the other
abbrev pub Within : ℕ → ℕ → Type 0
Within a h = (j : ℕ) → member a j ≡ true → member h j ≡ true

-- sets within each other are the same
pub within_same : (a b : ℕ) → Within a b → Within b a → a ≡ b
within_same a b f g = bits_from_members a b (λ j. elim (cases_Bool (member a j)) [
  | inl m ↦ m ∙ sym (f j m)
  | inr m ↦ elim (cases_Bool (member b j)) [ inl n ↦ absurd (clash (sym m ∙ g j n)) | inr n ↦ m ∙ sym n ]
])

-- another task is as it was
others : (h w n : ℕ) → w < n → member (excluding h w) n ≡ member h n
others h w n l = member_excluding h w n ∙ ap (λ b. member h n && not b) (ne_eqb n w (λ e. omega arith)) ∙ and_true (member h n)

module _ (says : Meaning) (raise : Raise says) (t : Table) (k : ℕ) where
  -- the tasks from w on are the same in both sets; those below are moved one by one
  lowered : (w a h : ℕ) → Within a h → ((n : ℕ) → w ≤ n → member h n ≡ member a n) → says t k h ≡ true → says t k a ≡ true
  lowered zero a h i e y = subst (λ x. says t k x ≡ true) (bits_from_members h a (λ n. e n (omega arith))) y
  lowered (suc w) a h i e y = elim (cases_Bool (member a w)) [
    | inl m ↦ lowered w a h i (from h e (i w m ∙ sym m)) y
    | inr m ↦ lowered w a (excluding h w) (λ j x. stays h w j (i j x) (λ q. clash (sym m ∙ ap (member a) (sym q) ∙ x))) (from (excluding h w) (λ n l. others h w n (omega arith) ∙ e n l) (gone h w ∙ sym m)) (raise t k h w y)
  ] where
    from : (s : ℕ) → ((n : ℕ) → suc w ≤ n → member s n ≡ member a n) → member s w ≡ member a w → (n : ℕ) → w ≤ n → member s n ≡ member a n
    from s f g n l = elim (cases_lt w n) [ inl q ↦ f n (omega arith) | inr q ↦ let z : n ≡ w = omega arith in ap (member s) z ∙ g ∙ sym (ap (member a) z) ]

  pub part_passes : (a h : ℕ) → Within a h → says t k h ≡ true → says t k a ≡ true
  part_passes a h i = lowered (h + a) a h i (λ n l. past h n (omega arith) ∙ sym (past a n (omega arith))) where
    past : (s n : ℕ) → s ≤ n → member s n ≡ false
    past s n l = member_past n s n (omega (arith, below_pow n)) (omega arith)
