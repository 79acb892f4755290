-- A file has one listing or one refusal, and not both. Assumes nothing.
use Rattle.std.proofs.Common.{◌≡◌, ℕ, List, [], ◌∷◌, ◌++◌, Some, None, Option, Result, sym, refl, ap, ◌∙◌, subst, inl, inr, arith}
use Rattle.std.proofs.lemmas.Bool.{cases_lt}
use Rattle.tasks.specs.declared.fault.SpaceFault.{SpaceFault}
use Rattle.tasks.specs.declared.row.Row.{Row}
use Rattle.tasks.specs.declared.table.Table.{Table}
use Rattle.roster_file.specs.Refusals.{file_tells}
use Rattle.roster_file.proofs.Unique.{layout_one, refusal_one, never_both}
use Rattle.demand.specs.Demand.{Least, IsResponse}
use Rattle.demand.specs.declared.mode.Mode.{Mode}
use Rattle.demand.specs.declared.mode.Mode.TheVariants.{Normal, Abnormal}
use Rattle.tests.specs.Guarantee.{guaranteed}
use Rattle.priority.specs.Passing.{named}
use Rattle.priority.specs.Plans.{IsPlan}
use Rattle.listing.specs.Texts.{listing_text, refusal_text}
use Rattle.listing.specs.declared.line.Line.{Line}
use Rattle.plan.specs.Answers.{Planned, Unplanned, IsLine, LinesBelow, LinesOf, ListingOf, RefusalOf, AsListing, AsRefusal, Answered}
use Rattle.plan.specs.Refusals.{no_listing_tells}
use Rattle.plan.specs.declared.answer.Answer.{Answer}
use Rattle.plan.specs.declared.answer.NoListing.{NoListing}
use Rattle.plan.specs.declared.answer.NoListing.TheVariants as no_listing

-- ---- the lines of an order

least_one : (P : ℕ → Type 0) (end t u : ℕ) → Least P end t → Least P end u → t ≡ u
least_one P end t u (a, b, p, f) (c, d, q, g) = elim (cases_lt t u) [
  | inl l ↦ absurd (g t a l p)
  | inr l ↦ elim (cases_lt u t) [ inl k ↦ absurd (f u c k q) | inr k ↦ omega arith ]
]

response_one : (m : Mode) (t : Table) (r : Row) (h : ℕ) (x y : Option ℕ) → IsResponse m t.places r h x → IsResponse m t.places r h y → x ≡ y
response_one m t r h (Some x) (Some y) (a, e, p) (b, f, q) = ap Some (e ∙ least_one _ _ a b p q ∙ sym f)
response_one m t r h (Some x) None (a, e, (l, k, p, f)) n = absurd (n a l k p)
response_one m t r h None (Some x) n (a, e, (l, k, p, f)) = absurd (n a l k p)
response_one m t r h None None n o = refl

line_one : (t : Table) (above : List ℕ) (k : ℕ) (l m : Line) → IsLine t above k l → IsLine t above k m → l ≡ m
line_one t above k l m a b =
    let row : Some a.row ≡ Some b.row = sym a.at ∙ b.at in
    let same : a.row ≡ b.row = cc in
    let place : l.place ≡ m.place = a.place ∙ sym b.place in
    let number : l.number ≡ m.number = a.number ∙ sym b.number in
    let kind : l.kind ≡ m.kind = cc in
    let normal = response_one Normal t b.row (named above) l.normal m.normal (rw same at a.normal) b.normal in
    let abnormal = response_one Abnormal t b.row (named above) l.abnormal m.abnormal (rw same at a.abnormal) b.abnormal in
    λ i. record { place = place i; number = number i; kind = kind i; normal = normal i; abnormal = abnormal i }

lines_one : (t : Table) (above ks : List ℕ) (ls ms : List Line) → LinesBelow t above ks ls → LinesBelow t above ks ms → ls ≡ ms
lines_one t above [] [] [] a b = refl
lines_one t above (k ∷ ks) (l ∷ ls) (m ∷ ms) a b = ap (λ xs. xs ∷ ls) (line_one t above k l m a.0 b.0) ∙ ap (λ xs. m ∷ xs) (lines_one t (above ++ k ∷ []) ks ls ms a.1 b.1)
lines_one t above [] (l ∷ ls) ms a b = absurd a
lines_one t above [] [] (m ∷ ms) a b = absurd b
lines_one t above (k ∷ ks) [] ms a b = absurd a
lines_one t above (k ∷ ks) (l ∷ ls) [] a b = absurd b

-- ---- the refusal of a file

pub not_refused : (file : List ℕ) (t : Table) (o : List ℕ) (n : ℕ) → Planned file t o → RefusalOf file n → ⊥
not_refused file t o n (c, l, p) (inl (f, r, e)) = never_both file t c f l r
not_refused file t o n (c, l, p) (inr ((u, d, m, none), e)) =
    let q = subst (λ v. IsPlan guaranteed v o) (layout_one file t u c d l m).0 p in
    none o q.0 (λ xs ys k s. (q.1 xs ys k s).0)

refusal_told : (file : List ℕ) (fault : NoListing) (n : ℕ) → Unplanned file fault → RefusalOf file n → (no_listing_tells fault).innermost ≡ n
refusal_told file (no_listing.File f) n r (inl (g, s, e)) = ap (λ x. (file_tells x).innermost) (refusal_one file f g r s) ∙ sym e
refusal_told file (no_listing.File f) n r (inr ((t, c, l, none), e)) = absurd (never_both file t c f l r)
refusal_told file (no_listing.NoOrder f) n (t, c, l, none) (inl (g, s, e)) = absurd (never_both file t c g l s)
refusal_told file (no_listing.NoOrder f) n u (inr (v, e)) = sym e

refusal_of : (file : List ℕ) (fault : NoListing) → Unplanned file fault → RefusalOf file (no_listing_tells fault).innermost
refusal_of file (no_listing.File f) r = inl (f, r, refl)
refusal_of file (no_listing.NoOrder f) u = inr (u, refl)

-- ---- the answer to a file

pub record Told (file before after : List ℕ) (r : Result Answer SpaceFault) : Type 0 where
  pub text : Answered file before after r
  pub listing : (ls : List Line) → ListingOf file ls → AsListing (listing_text ls) before after r
  pub refusal : (n : ℕ) → RefusalOf file n → AsRefusal (refusal_text n) before after r

module _ (file before after : List ℕ) (r : Result Answer SpaceFault) where
  pub listing_told : (t : Table) (o : List ℕ) (ls : List Line) → Planned file t o → ((u : Table) (p : List ℕ) → Planned file u p → (t ≡ u) × (o ≡ p)) → LinesOf t o ls → AsListing (listing_text ls) before after r → Told file before after r
  listing_told t o ls p only l w = record {
    text = inl (ls, (t, o, p, l), w);
    listing = λ ms (u, q, a, m).
        let same = only u q a in
        let here = subst (λ k. LinesBelow u [] k ls) same.1 (subst (λ v. LinesBelow v [] o ls) same.0 l) in
        subst (λ ks. AsListing (listing_text ks) before after r) (lines_one u [] q ls ms here m) w;
    refusal = λ n a. absurd (not_refused file t o n p a);
  }

  pub no_listing_told : (fault : NoListing) → Unplanned file fault → ((u : Table) (p : List ℕ) → Planned file u p → ⊥) → AsRefusal (refusal_text (no_listing_tells fault).innermost) before after r → Told file before after r
  no_listing_told fault p only w = record {
    text = inr ((no_listing_tells fault).innermost, refusal_of file fault p, w);
    listing = λ ls (t, o, a, l). absurd (only t o a);
    refusal = λ n a. subst (λ k. AsRefusal (refusal_text k) before after r) (refusal_told file fault n p a) w;
  }
