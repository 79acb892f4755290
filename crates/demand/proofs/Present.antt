-- A least number is present exactly where some number up to the end passes, and so is a response time. Assumes nothing.
use Rattle.std.proofs.Common.{◌≡◌, ℕ, zero, suc, ◌≤◌, Bool, true, false, List, set, is_some, Some, None, Decides, Option, sym, refl, ap, ◌∙◌, inl, inr, le_trans, arith}
use Rattle.demand.proofs.Monotone.{Within, demand_within, demand_emptied}
use Rattle.demand.specs.Demand.{demand, IsLeast, Serves, IsResponse, search_end}
use Rattle.demand.specs.Present.{some_up_to, present}
use Rattle.demand.specs.declared.mode.Mode.{Mode}
use Rattle.std.proofs.lemmas.Bool.{cases_Bool, cases_lt, or_cases, or_left, or_right, both_ways, leb-true, le-leb}
use Rattle.tasks.specs.declared.row.Row.{Row}

pub some_at : (p : ℕ → Bool) (end t : ℕ) → 1 ≤ t → t ≤ end → p t ≡ true → some_up_to p end ≡ true
unfolding some_up_to
some_at p zero t a b e = absurd (omega arith)
some_at p (suc n) t a b e = elim (cases_lt n t) [
  | inl q ↦ let w : suc n ≡ t = omega arith in or_left (p (suc n)) (some_up_to p n) (ap p w ∙ e)
  | inr q ↦ or_right (p (suc n)) (some_up_to p n) (some_at p n t a q e)
]

pub some_found : (p : ℕ → Bool) (end : ℕ) → some_up_to p end ≡ true → (t : ℕ) × (1 ≤ t) × (t ≤ end) × (p t ≡ true)
unfolding some_up_to
some_found p zero e = absurd (both_ways false refl e)
some_found p (suc n) e = elim (or_cases (p (suc n)) (some_up_to p n) e) [
  | inl q ↦ (suc n, omega arith, omega arith, q)
  | inr q ↦ let r = some_found p n q in (r.0, r.1, omega arith, r.3)
]

pub some_mono : (p q : ℕ → Bool) → ((t : ℕ) → p t ≡ true → q t ≡ true) → (end : ℕ) → some_up_to p end ≡ true → some_up_to q end ≡ true
some_mono p q l end e = let r = some_found p end e in some_at q end r.0 r.1 r.2 (l r.0 r.3)

pub least_present : (P : ℕ → Type 0) (p : ℕ → Bool) → ((t : ℕ) → Decides (p t) (P t)) → (end : ℕ) (o : Option ℕ) → IsLeast P end o → is_some o ≡ some_up_to p end
least_present P p d end (Some t) l = sym (some_at p end t l.0 l.1 ((d t).1 l.2))
least_present P p d end None n = elim (cases_Bool (some_up_to p end)) [
  | inl e ↦ let r = some_found p end e in absurd (n r.0 r.1 r.2 ((d r.0).0 r.3))
  | inr e ↦ sym e
]

-- ---- response times

pub response_present : (m : Mode) (ps : List (Option Row)) (r : Row) (h : ℕ) (x : Option ℕ) → IsResponse m ps r h x → is_some x ≡ present m ps r h
response_present m ps r h (Some u) i = least_present (Serves m ps r h) _ (λ t. (leb-true _ t, le-leb _ t)) (search_end r) (Some i.0) i.2
response_present m ps r h None i = least_present (Serves m ps r h) _ (λ t. (leb-true _ t, le-leb _ t)) (search_end r) None i

-- where the demand is more at no time
pub present_below : (m : Mode) (ps qs : List (Option Row)) (r : Row) (a b : ℕ) → ((t : ℕ) → demand m qs r b t ≤ demand m ps r a t) → present m ps r a ≡ true → present m qs r b ≡ true
present_below m ps qs r a b l = some_mono _ _ (λ t e. le-leb _ t (le_trans (l t) (leb-true _ t e))) (search_end r)

pub present_within : (m : Mode) (ps : List (Option Row)) (r : Row) (a b : ℕ) → Within a b → present m ps r b ≡ true → present m ps r a ≡ true
present_within m ps r a b w = present_below m ps ps r b a (λ t. demand_within m ps r a b t w)

pub present_emptied : (m : Mode) (ps : List (Option Row)) (j : ℕ) (r : Row) (h : ℕ) → present m ps r h ≡ true → present m (set ps j None) r h ≡ true
present_emptied m ps j r h = present_below m ps (set ps j None) r h h (λ t. demand_emptied m ps j r h t)
