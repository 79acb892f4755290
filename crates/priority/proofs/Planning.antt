-- The plan is the only one, and what is left is the same however places are filled. Assumes nothing.
use Rattle.std.proofs.Common.{◌≡◌, ℕ, zero, suc, ◌/◌, ◌%◌, ◌^◌, ◌<◌, ◌≤◌, true, cond, ◌⊎◌, List, [], ◌∷◌, reverse, length, sym, refl, ap, ◌∙◌, subst, inl, inr, pow-suc, arith}
use borrow.Author.Tests.{clash}
use Rattle.std.proofs.lemmas.List.{reverse-reverse}
use Rattle.std.proofs.lemmas.Bool.{cases_lt, cases_eq, eq-eqb}
use Rattle.tasks.specs.Orders.{occurs, in_use, Lists}
use Rattle.tasks.specs.Sets.{member, excluding}
use Rattle.tasks.specs.declared.table.Table.{Table}
use Rattle.tasks.proofs.Few.{few_among}
use Rattle.tasks.proofs.Sets.{member_zero, member_suc, member_none, bits_from_members}
use Rattle.schedulability.specs.Laws.{Meaning, Raise, Alike}
use Rattle.priority.specs.Fillings.{Filled, Stuck, LeftOver}
use Rattle.priority.specs.Passing.{AtEachPlace, Yes, Passes, NoOrder}
use Rattle.priority.specs.Plans.{deadline, TriedBefore, FirstYes, IsPlan}
use Rattle.priority.proofs.Candidates.{put_back}
use Rattle.priority.proofs.Filling.{filled_by, filled_within, filled_once, filled_each, each_filled}
use Rattle.priority.proofs.Named.{occurs_reverse}
use Rattle.priority.proofs.Raising.{Within, within_same, part_passes}
use Rattle.priority.proofs.Walks.{left_member, left_other, stays}

nobody : (k : ℕ) → member 0 k ≡ true → ⊥
nobody k m = clash (sym (member_none k) ∙ m)

-- a set with bits has a member
pub some_member : (w h : ℕ) → h < 2 ^ w → (h ≡ 0 → ⊥) → (n : ℕ) × (member h n ≡ true)
some_member zero h l n = absurd (n (omega arith))
some_member (suc w) h l n = elim (cases_eq (h % 2) 1) [
  | inl e ↦ (0, member_zero h ∙ eq-eqb (h % 2) 1 e)
  | inr e ↦ let r = some_member w (h / 2) (omega (arith, pow-suc 2 w)) (λ z. n (grind arith)) in (suc r.0, member_suc h r.0 ∙ r.1)
]

-- a table has no more than 32 places to fill
pub filled_few : (P : ℕ → ℕ → Type 0) (t : Table) (a : ℕ) → ((n : ℕ) → member a n ≡ in_use t.places n) → (ks : List ℕ) (b : ℕ) → Filled P a ks b → length ks ≤ 32
filled_few P t a all ks b f = few_among ks t.places t.full (λ n. omega (arith, filled_once P a ks b f n, ap (λ x. cond {A = ℕ} x 1 0) (all n)))

-- ---- meanings that give the same answers

module _ (told says : Meaning) (alike : Alike told says) (t : Table) where
  pub first_alike : (h k : ℕ) → FirstYes told t h k → FirstYes says t h k
  first_alike h k (y, n) = (sym (alike t k h) ∙ y, λ j m b. sym (alike t j _) ∙ n j m b)

  pub stuck_alike : (l : ℕ) → Stuck told t l → Stuck says t l
  stuck_alike l s k m = sym (alike t k _) ∙ s k m

-- ---- the plan is the only one

one_first : (t : Table) (j k : ℕ) → (j ≡ k → ⊥) → TriedBefore t j k ⊎ TriedBefore t k j
one_first t j k n = elim (cases_lt (deadline t j) (deadline t k)) [
  | inl l ↦ inr (inl l)
  | inr l ↦ elim (cases_lt (deadline t k) (deadline t j)) [
    | inl m ↦ inl (inl m)
    | inr m ↦ elim (cases_lt k j) [ inl x ↦ inl (inr (omega arith, x)) | inr x ↦ inr (inr (omega arith, omega (arith, n))) ]
  ]
]

module _ (says : Meaning) (t : Table) where
  -- a task that is tried before the one that took the place got a no there
  not_both : (a j k : ℕ) → member a j ≡ true → member a k ≡ true → FirstYes says t (excluding a j) j → FirstYes says t (excluding a k) k → (j ≡ k → ⊥) → TriedBefore t j k → ⊥
  not_both a j k mj mk yj yk n b = clash (sym (sym (ap (λ s. says t j (excluding s j)) (put_back a k mk)) ∙ yk.1 j (stays a k j mj n) b) ∙ yj.0)

  first_same : (a j k : ℕ) → member a j ≡ true → member a k ≡ true → FirstYes says t (excluding a j) j → FirstYes says t (excluding a k) k → j ≡ k
  first_same a j k mj mk yj yk = elim (cases_eq j k) [
    | inl e ↦ e
    | inr n ↦ elim (one_first t j k n) [ inl b ↦ absurd (not_both a j k mj mk yj yk n b) | inr b ↦ absurd (not_both a k j mk mj yk yj (λ e. n (sym e)) b) ]
  ]

  filled_same : (a : ℕ) (ks ls : List ℕ) → Filled (FirstYes says t) a ks 0 → Filled (FirstYes says t) a ls 0 → ks ≡ ls
  filled_same a [] [] e f = refl
  filled_same a [] (l ∷ ls) e (m, p, f) = absurd (nobody l (ap (λ x. member x l) (sym e) ∙ m))
  filled_same a (k ∷ ks) [] (m, p, f) e = absurd (nobody k (ap (λ x. member x k) (sym e) ∙ m))
  filled_same a (k ∷ ks) (l ∷ ls) (m, p, f) (n, q, g) =
      let e = first_same a k l m n p q in
      ap (λ x. x ∷ ks) e ∙ ap (λ xs. l ∷ xs) (filled_same (excluding a l) ks ls (subst (λ x. Filled (FirstYes says t) (excluding a x) ks 0) e f) g)

  module _ (a : ℕ) (all : (n : ℕ) → member a n ≡ in_use t.places n) where
    as_members : (o : List ℕ) → Lists o t.places → (n : ℕ) → occurs n (reverse o) ≡ cond (member a n) 1 0
    as_members o l n = occurs_reverse n o ∙ l n ∙ sym (ap (λ b. cond b 1 0) (all n))

    -- an order that has something at each place fills all places with it
    order_filled : (P : ℕ → ℕ → Type 0) (o : List ℕ) → Lists o t.places → AtEachPlace P o → Filled P a (reverse o) 0
    order_filled P o l p = each_filled P a (reverse o) (as_members o l) (subst (AtEachPlace P) (sym (reverse-reverse o)) p)

    -- places filled by the first that gets a yes, until nothing is left, are the plan
    pub filled_plan : (us : List ℕ) → Filled (FirstYes says t) a us 0 → IsPlan says t (reverse us)
    filled_plan us f = (λ n. occurs_reverse n us ∙ named n, filled_each (FirstYes says t) a us f) where
      named : (n : ℕ) → occurs n us ≡ cond (in_use t.places n) 1 0
      named n = omega (arith, filled_once (FirstYes says t) a us 0 f n, ap (λ b. cond {A = ℕ} b 1 0) (member_none n), ap (λ b. cond {A = ℕ} b 1 0) (all n))

    pub plan_same : (us : List ℕ) (p : List ℕ) → Filled (FirstYes says t) a us 0 → IsPlan says t p → reverse us ≡ p
    plan_same us p f (l, e) = ap reverse (filled_same a us (reverse p) f (order_filled (FirstYes says t) p l e)) ∙ reverse-reverse p

    -- an order that passes leaves nothing
    pub passing_left : (o : List ℕ) → Lists o t.places → Passes says t o → LeftOver says t 0
    passing_left o l p = (a, reverse o, all, order_filled (Yes says t) o l p, λ k m. absurd (nobody k m))

    -- what filling by the first that gets a yes leaves, when a test that answers alike gives nobody a yes
    pub planned_left : (told : Meaning) → Alike told says → (us : List ℕ) (l : ℕ) → Filled (FirstYes says t) a us l → Stuck told t l → LeftOver says t l
    planned_left told alike us l f s = (a, us, all, filled_by (FirstYes says t) (Yes says t) (λ h k y. y.0) a us l f, stuck_alike told says alike t l s)

  -- ---- what is left is the same however places are filled

  module _ (raise : Raise says) where
    -- a task of a set that is stuck is never put in a place while all of the set is left
    stuck_stays : (l a : ℕ) (ks : List ℕ) (b : ℕ) → Stuck says t l → Within l a → Filled (Yes says t) a ks b → Within l b
    stuck_stays l a [] b s w e = subst (Within l) e w
    stuck_stays l a (k ∷ ks) b s w (u, y, f) = stuck_stays l (excluding a k) ks b s (λ j m. stays a k j (w j m) (λ e. not_placed (subst (λ x. member l x ≡ true) e m))) f where
      not_placed : member l k ≡ true → ⊥
      not_placed m = clash (sym (s k m) ∙ part_passes says raise t k (excluding l k) (excluding a k) (λ j i. stays a k j (w j (left_member l k j i)) (left_other l k j i)) y)

    pub left_same : (l m : ℕ) → LeftOver says t l → LeftOver says t m → l ≡ m
    left_same l m (a, ks, i, f, s) (b, ls, j, g, r) =
        let e : a ≡ b = bits_from_members a b (λ n. i n ∙ sym (j n)) in
        within_same l m
        (stuck_stays l b ls m s (subst (Within l) e (filled_within (Yes says t) a ks l f)) g)
        (stuck_stays m a ks l r (subst (Within m) (sym e) (filled_within (Yes says t) b ls m g)) f)

    -- where tasks are left, no order passes
    pub left_no_order : (l n : ℕ) → LeftOver says t l → member l n ≡ true → NoOrder says t
    left_no_order l n v m o x p = nobody n (ap (λ s. member s n) (sym (left_same l 0 v (passing_left v.0 v.2 o x p))) ∙ m)
