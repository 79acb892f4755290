-- Where one strict task of a set is refused below all the others, those that are due no later are too. Assumes nothing.
use Rattle.std.proofs.Common.{◌≡◌, ℕ, ◌*◌, ◌<◌, ◌≤◌, Bool, true, false, not, ◌&&◌, ◌||◌, eqb, leb, get_or, List, [], ◌∷◌, Option, is_some, Some, None, ◌≢◌, sym, refl, ap, ◌∙◌, subst, inl, inr, le_trans, mul-one, arith}
use borrow.Author.Tests.{clash}
use lib.Pointwise.{pointwise}
use Rattle.std.specs.Option.{option_eq}
use Rattle.std.proofs.lemmas.Bool.{cases_Bool, cases_eq, and_parts, and_from, and_right, eq-eqb, ne_eqb, le-leb}
use Rattle.tasks.specs.Orders.{in_use}
use Rattle.tasks.specs.Sets.{member, excluding, members}
use Rattle.tasks.specs.declared.kind.Kind.{Kind}
use Rattle.tasks.specs.declared.kind.Kind.TheVariants.{Strict}
use Rattle.tasks.specs.declared.row.Row.{Row}
use Rattle.tasks.specs.declared.table.Table.{Table}
use Rattle.tasks.proofs.Places.{on_table}
use Rattle.tasks.proofs.Same.{same_table}
use Rattle.tasks.proofs.Sets.{member_excluding, bits_from_members, and_true, or_false}
use Rattle.demand.specs.Demand.{ceil_div, cost, share, interference, demand}
use Rattle.demand.specs.declared.mode.Mode.{Mode}
use Rattle.demand.specs.declared.mode.Mode.TheVariants.{Normal, Abnormal}
use Rattle.demand.proofs.Rounding.{ceil_pos, ceil_least}
use Rattle.schedulability.specs.Proper.{Proper}
use Rattle.tests.specs.Blocking.{without_one}
use Rattle.tests.specs.Guarantee.{guaranteed, Guaranteed}
use Rattle.tests.specs.Words.{Served}
use Rattle.tests.proofs.Guaranteeing.{guaranteed_means, guaranteed_from}
use Rattle.plan.specs.Remembered.{NoneBy}

-- a period has one release
one_release : (p n : ℕ) → 1 ≤ n → n ≤ p → ceil_div n p ≡ 1
one_release p n a b = omega (arith, ceil_pos p n (omega arith) a, ceil_least p n 1 (omega arith) (omega arith))

module _ (t : Table) (all : ℕ) where
  used : (k : ℕ) (r : Row) → get_or t.places k None ≡ Some r → in_use t.places k ≡ true
  used k r e = ap is_some e

  -- below all the others of the set, up to its deadline, a task has the demand of the whole set
  whole : (m : Mode) (k : ℕ) (r : Row) (n : ℕ) → member all k ≡ true → get_or t.places k None ≡ Some r → 1 ≤ n → n ≤ r.deadline → demand m t.places r (excluding all k) n ≡ interference m t.places (members all) n
  whole m k r n y e a b =
      let w = without_one m t.places n all k (on_table t k (used k r e)) y in
      let one = one_release r.period n a (omega (arith, t.window k r e)) in
      let own : share m n (get_or t.places k None) ≡ cost m r = ap (share m n) e ∙ ap (λ x. cost m r * x) one ∙ mul-one (cost m r) in
      omega (arith, w, own)

  module _ (j k : ℕ) (s r : Row) (y : member all j ≡ true) (z : member all k ≡ true) (e : get_or t.places j None ≡ Some s) (f : get_or t.places k None ≡ Some r) (l : s.deadline ≤ r.deadline) where
    served_too : (m : Mode) → Served m t s (excluding all j) → Served m t r (excluding all k)
    served_too m (n, a, b, d) = (n, a, le_trans b l, omega (arith, d, whole m j s n y e a b, whole m k r n z f a (le_trans b l)))

    proper_too : Proper t j (excluding all j) → Proper t k (excluding all k)
    proper_too (a, b, c) = (used k r f, member_excluding all k k ∙ and_right (member all k) _ (ap not (eq-eqb k k refl)), λ i x. by_task i x) where
      by_task : (i : ℕ) → member (excluding all k) i ≡ true → in_use t.places i ≡ true
      by_task i x = elim (cases_eq i j) [
        | inl same ↦ ap (in_use t.places) same ∙ a
        | inr other ↦ c i (member_excluding all j i ∙ and_from _ _ (and_parts (member all i) _ (sym (member_excluding all k i) ∙ x)).0 (ap not (ne_eqb i j other)))
      ]

    -- a strict task that passes is followed by all that are due no earlier
    due_later : s.kind ≡ Strict → Guaranteed t j (excluding all j) → Guaranteed t k (excluding all k)
    due_later strict (p, (q, g, normal, abnormal)) =
        let same : Some q ≡ Some s = sym g ∙ e in
        let is : q ≡ s = grind arith in
        (proper_too p, (r, f, served_too Normal (subst (λ x. Served Normal t x (excluding all j)) is normal), λ _. served_too Abnormal (subst (λ x. Served Abnormal t x (excluding all j)) is (abnormal (ap (λ x. x.kind) is ∙ strict)))))

-- the set with a task, and without it again
without_with : (h all k : ℕ) → member h k ≡ false → ((j : ℕ) → member all j ≡ (member h j || (eqb j k && leb k 31))) → excluding all k ≡ h
without_with h all k out with = bits_from_members (excluding all k) h by_task where
  by_task : (j : ℕ) → member (excluding all k) j ≡ member h j
  by_task j = elim (cases_eq j k) [
    | inl same ↦ member_excluding all k j ∙ and_right (member all j) _ (ap not (eq-eqb j k same)) ∙ sym (ap (member h) same ∙ out)
    | inr other ↦ let n = ne_eqb j k other in member_excluding all k j ∙ ap (λ b. member all j && not b) n ∙ and_true (member all j) ∙ with j ∙ ap (λ b. member h j || (b && leb k 31)) n ∙ or_false (member h j)
  ]

-- what is known of the set where one strict task is refused
pub none_by : (t : Table) (h all k : ℕ) (r : Row) → get_or t.places k None ≡ Some r → member h k ≡ false → ((j : ℕ) → member all j ≡ (member h j || (eqb j k && leb k 31))) → guaranteed t k h ≡ false → NoneBy t all r.deadline
none_by t h all k r f out with refused j s y e strict l = elim (cases_Bool (guaranteed t j (excluding all j))) [
  | inl passes ↦ absurd (clash (sym refused ∙ subst (λ g. guaranteed t k g ≡ true) (without_with h all k out with) (guaranteed_from t k (excluding all k) (due_later t all j k s r y z e f l strict (guaranteed_means t j (excluding all j) passes)))))
  | inr is ↦ is
] where
  on : k < 32
  on = on_table t k (ap is_some f)

  z : member all k ≡ true
  z = with k ∙ ap (λ b. member h k || b) (and_from _ _ (eq-eqb k k refl) (le-leb k 31 (omega (arith, on)))) ∙ ap (λ b. b || true) out

-- and of a question about one of its tasks
pub told : (t u : Table) (tasks k h due : ℕ) (r : Row) → NoneBy t tasks due → t ≡ u → member tasks k ≡ true → excluding tasks k ≡ h → Some r ≡ get_or u.places k None → r.kind ≡ Strict → r.deadline ≤ due → guaranteed u k h ≡ false
told t u tasks k h due r none same m without e strict l = subst (λ v. guaranteed v k h ≡ false) same (subst (λ g. guaranteed t k g ≡ false) without (none k r m (ap (λ v. get_or v.places k None) same ∙ sym e) strict l))

-- ---- what `==` tells of two tables

module _ (K : Kind → Kind → Bool) (N : ℕ → ℕ → Bool) (kinds : (a b : Kind) → K a b ≡ true → a ≡ b) (times : (a b : ℕ) → N a b ≡ true → a ≡ b) where
  abbrev pub row_eq : Row → Row → Bool
  row_eq r s = K r.kind s.kind && (N r.normal s.normal && (N r.abnormal s.abnormal && (N r.section s.section && (N r.deadline s.deadline && N r.period s.period))))

  same_row : (r s : Row) → row_eq r s ≡ true → r ≡ s
  same_row r s y =
      let a = and_parts (K r.kind s.kind) _ y in
      let b = and_parts (N r.normal s.normal) _ a.1 in
      let c = and_parts (N r.abnormal s.abnormal) _ b.1 in
      let d = and_parts (N r.section s.section) _ c.1 in
      let e = and_parts (N r.deadline s.deadline) _ d.1 in
      ap (λ x. record { kind = x; normal = r.normal; abnormal = r.abnormal; section = r.section; deadline = r.deadline; period = r.period }) (kinds _ _ a.0)
      ∙ ap (λ x. record { kind = s.kind; normal = x; abnormal = r.abnormal; section = r.section; deadline = r.deadline; period = r.period }) (times _ _ b.0)
      ∙ ap (λ x. record { kind = s.kind; normal = s.normal; abnormal = x; section = r.section; deadline = r.deadline; period = r.period }) (times _ _ c.0)
      ∙ ap (λ x. record { kind = s.kind; normal = s.normal; abnormal = s.abnormal; section = x; deadline = r.deadline; period = r.period }) (times _ _ d.0)
      ∙ ap (λ x. record { kind = s.kind; normal = s.normal; abnormal = s.abnormal; section = s.section; deadline = x; period = r.period }) (times _ _ e.0)
      ∙ ap (λ x. record { kind = s.kind; normal = s.normal; abnormal = s.abnormal; section = s.section; deadline = s.deadline; period = x }) (times _ _ e.1)

  same_place : (o p : Option Row) → option_eq row_eq o p ≡ true → o ≡ p
  same_place (Some r) (Some s) y = ap Some (same_row r s y)
  same_place (Some r) None y = absurd (clash y)
  same_place None (Some s) y = absurd (clash y)
  same_place None None y = refl

  same_places : (ps qs : List (Option Row)) → pointwise (option_eq row_eq) ps qs ≡ true → ps ≡ qs
  same_places [] [] y = refl
  same_places [] (q ∷ qs) y = absurd (clash y)
  same_places (p ∷ ps) [] y = absurd (clash y)
  same_places (p ∷ ps) (q ∷ qs) y =
      let a = and_parts (option_eq row_eq p q) _ y in
      ap (λ x. x ∷ ps) (same_place p q a.0) ∙ ap (λ xs. q ∷ xs) (same_places ps qs a.1)

  pub tables : (t u : Table) → pointwise (option_eq row_eq) t.places u.places ≡ true → t ≡ u
  tables t u y = same_table t u (same_places t.places u.places y)
