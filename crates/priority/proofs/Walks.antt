-- The member of a set that is tried first. Assumes nothing.
use Rattle.std.proofs.Common.{◌≡◌, ℕ, zero, suc, ◌+◌, ◌/◌, ◌^◌, ◌<◌, ◌≤◌, Bool, true, false, cond, not, eqb, ◌⊎◌, List, [], ◌∷◌, Some, None, Option, Bor, sym, refl, ap, ◌∙◌, subst, inl, inr, arith, MatchOption}
use denote.Param.Members.{Mut}
use Rattle.std.specs.Fn.{CalledAt}
use Rattle.std.specs.Iterator.{YieldsFirst, Drains, KeyTurn, PicksMaxByKey}
use Rattle.std.specs.List.{FoldsTo}
use Rattle.std.specs.Ordering.{nat_cmp, max_by_ordering}
use Rattle.std.specs.declared.cmp.Ordering.{Ordering}
use Rattle.std.specs.declared.cmp.Ordering.TheVariants.{Less, Equal, Greater}
use Rattle.std.proofs.lemmas.Bool.{and_parts, and_from, eqb-false, ne_eqb, not-true, not_from_false, cases_Bool, cases_eq}
use Rattle.std.proofs.lemmas.Cmp.{ranked}
use Rattle.std.proofs.lemmas.List.{map-id}
use Rattle.std.proofs.lemmas.Iterator.{items_from_drains}
use Rattle.std.proofs.lemmas.Iterator.Consumers.{YieldsList-from_first}
use Rattle.tasks.specs.Orders.{occurs}
use Rattle.tasks.specs.Sets.{member, members_from, members, excluding}
use Rattle.tasks.specs.declared.table.Table.{Table}
use Rattle.tasks.specs.declared.walk.Members.{Members}
use Rattle.tasks.proofs.Members.{parity, members_odd, members_even, occurs_same, occurs_other, occurs_members, lowest}
use Rattle.tasks.proofs.Sets.{member_excluding}
use Rattle.priority.specs.Plans.{deadline, TriedBefore}

-- ---- a set without one of its members

pub left_member : (h n j : ℕ) → member (excluding h n) j ≡ true → member h j ≡ true
left_member h n j m = (and_parts (member h j) (not (eqb j n)) (sym (member_excluding h n j) ∙ m)).0

pub left_other : (h n j : ℕ) → member (excluding h n) j ≡ true → j ≡ n → ⊥
left_other h n j m e = eqb-false j n (not-true (eqb j n) (and_parts (member h j) (not (eqb j n)) (sym (member_excluding h n j) ∙ m)).1) e

pub stays : (h n j : ℕ) → member h j ≡ true → (j ≡ n → ⊥) → member (excluding h n) j ≡ true
stays h n j m e = member_excluding h n j ∙ and_from (member h j) _ m (not_from_false (eqb j n) (ne_eqb j n e))

pub gone : (h n : ℕ) → member (excluding h n) n ≡ false
gone h n = elim (cases_Bool (member (excluding h n) n)) [ inl m ↦ absurd (left_other h n n m refl) | inr m ↦ m ]

-- ---- the candidate that is tried first

-- a task that is named is a member
named_member : (b : Bool) (k : ℕ) → k ≡ cond b 1 0 → 1 ≤ k → b ≡ true
named_member true k e l = refl
named_member false k e l = absurd (omega arith)

-- j is due before k, or with it and has no higher number
abbrev pub NoLater : Table → ℕ → ℕ → Type 0
NoLater t j k = (deadline t j < deadline t k) ⊎ ((deadline t j ≡ deadline t k) × (j ≤ k))

no_later_too : (t : Table) (i j k : ℕ) → NoLater t i j → NoLater t j k → NoLater t i k
no_later_too t i j k (inl a) (inl b) = inl (omega arith)
no_later_too t i j k (inl a) (inr (b, c)) = inl (omega arith)
no_later_too t i j k (inr (a, c)) (inl b) = inl (omega arith)
no_later_too t i j k (inr (a, c)) (inr (b, d)) = inr (omega arith, omega arith)

not_tried_before : (t : Table) (j k : ℕ) → NoLater t j k → TriedBefore t j k → ⊥
not_tried_before t j k (inl a) (inl b) = omega arith
not_tried_before t j k (inl a) (inr (b, c)) = omega arith
not_tried_before t j k (inr (a, c)) (inl b) = omega arith
not_tried_before t j k (inr (a, c)) (inr (b, d)) = omega arith

-- numbers that rise, from m on
abbrev pub Rises : ℕ → List ℕ → Type 0
Rises m [] = Unit {0}
Rises m (x ∷ xs) = (m ≤ x) × Rises (x + 1) xs

rises_from : (m k : ℕ) (xs : List ℕ) → m ≤ k → Rises k xs → Rises m xs
rises_from m k [] l r = tt
rises_from m k (x ∷ xs) l r = (omega (arith, r.0), r.1)

members_rise : (k n h : ℕ) → Rises k (members_from k n h)
unfolding members_from
members_rise k zero h = tt
members_rise k (suc n) h = elim (parity h) [
  | inl e ↦ subst (Rises k) (sym (members_odd k n h e)) (omega arith, members_rise (k + 1) n (h / 2))
  | inr e ↦ subst (Rises k) (sym (members_even k n h e)) (rises_from k (k + 1) _ (omega arith) (members_rise (k + 1) n (h / 2)))
]

nothing : (x : ℕ) (xs : List ℕ) → x ∷ xs ≡ [] → ⊥
nothing x xs e = cc

named_then : (x j : ℕ) (xs : List ℕ) → 1 ≤ occurs j (x ∷ xs) → (j ≡ x) ⊎ (1 ≤ occurs j xs)
named_then x j xs l = elim (cases_eq x j) [ inl e ↦ inl (sym e) | inr e ↦ inr (omega (arith, occurs_other x j xs e)) ]

module _ {F : Type 0} (g : Mut F (Bor ℕ × Unit {0}) ℕ) (t : Table) (f : F) (once : (x k : ℕ) (f' : F) → CalledAt g f x k f' → (k ≡ deadline t x) × (f' ≡ f)) where
  abbrev Best : ℕ → List ℕ → ℕ → Type 0
  Best b xs y = ((y ≡ b) ⊎ (1 ≤ occurs y xs)) × NoLater t b y × ((j : ℕ) → 1 ≤ occurs j xs → NoLater t j y)

  -- one task more, of which the first is no later than the second, that is kept
  more : (b x c y : ℕ) (xs : List ℕ) → (c ≡ b) ⊎ (c ≡ x) → NoLater t b c → NoLater t x c → Best c xs y → Best b (x ∷ xs) y
  more b x c y xs which before now (which', late, others) = (
    elim which' [
      | inl e ↦ elim which [ inl i ↦ inl (e ∙ i) | inr i ↦ inr (omega (arith, ap (λ n. occurs n (x ∷ xs)) (e ∙ i), occurs_same x xs)) ]
      | inr o ↦ inr (omega arith)
    ],
    no_later_too t b c y before late,
    λ j o. elim (named_then x j xs o) [ inl e ↦ subst (λ n. NoLater t n y) (sym e) (no_later_too t x c y now late) | inr m ↦ others j m ],
  )

  abbrev Run : (F × ℕ) × ℕ → List ℕ → (F × ℕ) × ℕ → Type 0
  Run = FoldsTo {P = (F × ℕ) × ℕ} (KeyTurn max_by_ordering max_by_ordering g nat_cmp)

  -- the best of some tasks, where the best so far is below them
  abbrev Picks : List ℕ → Type 0
  Picks xs = (m : ℕ) (j : (F × ℕ) × ℕ) (y : ℕ) (q : F × ℕ) → j.0.0 ≡ f → j.0.1 ≡ deadline t j.1 → j.1 < m → Rises m xs → Run j xs (q, y) → Best j.1 xs y

  turned : (x : ℕ) (xs : List ℕ) (m : ℕ) (i j : (F × ℕ) × ℕ) (y : ℕ) (q : F × ℕ) (k : ℕ) (o : Ordering) → i.0.1 ≡ deadline t i.1 → i.1 < m → m ≤ x → Rises (x + 1) xs → (k ≡ deadline t x) × (j.0.0 ≡ f)
      → nat_cmp i.0.1 k ≡ o → j.0.1 ≡ max_by_ordering o i.0.1 k → j.1 ≡ max_by_ordering o i.1 x → Picks xs → Run j xs (q, y) → Best i.1 (x ∷ xs) y
  turned x xs m i j y q k Less due low up rise call cmp key item rest run =
      let less = ranked i.0.1 k Less (sym cmp) in
      let here : j.0.1 ≡ deadline t j.1 = key ∙ call.0 ∙ ap (deadline t) (sym item) in
      more i.1 x j.1 y xs (inr item) (inl (omega (arith, call.0, here, key))) (inr (ap (deadline t) (sym item), omega (arith, item))) (rest (x + 1) j y q call.1 here (omega (arith, item)) rise run)
  turned x xs m i j y q k Equal due low up rise call cmp key item rest run =
      let same = ranked i.0.1 k Equal (sym cmp) in
      let here : j.0.1 ≡ deadline t j.1 = key ∙ call.0 ∙ ap (deadline t) (sym item) in
      more i.1 x j.1 y xs (inr item) (inr (omega (arith, call.0, here, key), omega (arith, item))) (inr (ap (deadline t) (sym item), omega (arith, item))) (rest (x + 1) j y q call.1 here (omega (arith, item)) rise run)
  turned x xs m i j y q k Greater due low up rise call cmp key item rest run =
      let greater = ranked i.0.1 k Greater (sym cmp) in
      let here : j.0.1 ≡ deadline t j.1 = key ∙ due ∙ ap (deadline t) (sym item) in
      more i.1 x j.1 y xs (inl item) (inr (ap (deadline t) (sym item), omega (arith, item))) (inl (omega (arith, call.0, here, key))) (rest (x + 1) j y q call.1 here (omega (arith, item)) rise run)

  best : (xs : List ℕ) → Picks xs
  best [] m j y q same due low rise run = let e : j.1 ≡ y = ap (λ (w : (F × ℕ) × ℕ). w.1) run in (inl (sym e), inr (ap (deadline t) e, omega (arith, e)), λ n o. absurd (omega arith))
  best (x ∷ xs) m j y q same due low rise run =
      let turn = run.1 in
      turned x xs m j run.0 y q turn.0 turn.1 due low rise.0 rise.1 (once x turn.0 run.0.0.0 (subst (λ (h : F). CalledAt g h x turn.0 run.0.0.0) same turn.2)) turn.3 turn.4 turn.5 (best xs) run.2

  all_members : (h : ℕ) (s : Members) (xs : List ℕ) → s.left.bits ≡ h → Drains (YieldsFirst (λ (w : Members). members w.left.bits)) s xs → xs ≡ members h
  all_members h s xs e d =
      sym (map-id xs) ∙ items_from_drains xs (d.1.0, d.1.1, λ _. (d.0, d.1.2)) (YieldsList-from_first (λ (n : ℕ). n) (λ (w : Members). members w.left.bits) (members h) (ap members e))

  -- the pick of a set: a member, of which no member is tried before
  pub first_tried : (h : ℕ) (s : Members) (o : Option ℕ) → h < 2 ^ 32 → s.left.bits ≡ h → PicksMaxByKey (YieldsFirst (λ (w : Members). members w.left.bits)) g nat_cmp s f o
      → MatchOption o (h ≡ 0) (λ k. (member h k ≡ true) × ((j : ℕ) → member h j ≡ true → TriedBefore t j k → ⊥))
  first_tried h s None l e picks = elim (cases_eq h 0) [
    | inl z ↦ z
    | inr n ↦ let some : members h ≡ _ ∷ _ = (lowest 0 32 h (omega arith) l).1 in absurd (nothing _ _ (sym some ∙ sym (all_members h s [] e picks)))
  ]
  first_tried h s (Some y) l e picks =
      let x = picks.0 in
      let xs = picks.1 in
      let all : x ∷ xs ≡ members h = all_members h s (x ∷ xs) e picks.5 in
      let call = once x picks.2 picks.3 picks.6 in
      let rise : Rises 0 (x ∷ xs) = subst (Rises 0) (sym all) (members_rise 0 32 h) in
      let b : Best x xs y = best xs (x + 1) ((picks.3, picks.2), x) y picks.4 call.1 call.0 (omega arith) rise.1 picks.7 in
      let times : (j : ℕ) → occurs j (x ∷ xs) ≡ cond (member h j) 1 0 = λ j. ap (occurs j) all ∙ occurs_members 32 h j l in
      let it : 1 ≤ occurs y (x ∷ xs) = elim b.0 [ inl i ↦ omega (arith, ap (λ n. occurs n (x ∷ xs)) i, occurs_same x xs) | inr o ↦ omega arith ] in (
        named_member (member h y) (occurs y (x ∷ xs)) (times y) it,
        λ j k. not_tried_before t j y (elim (named_then x j xs (omega (arith, times j, ap (λ (i : Bool). cond {A = ℕ} i 1 0) k))) [ inl i ↦ subst (λ n. NoLater t n y) (sym i) b.1 | inr o ↦ b.2 j o ]),
      )
