-- Tasks taken up one after another. Assumes nothing.
use Rattle.std.proofs.Common.{◌≡◌, ℕ, ◌+◌, ◌<◌, false, List, [], ◌∷◌, ◌++◌, length, get_or, set, take, drop, is_some, Some, None, sym, ap, ◌∙◌, subst, arith}
use Rattle.std.proofs.lemmas.List.{get_or-set_same, get_or-set_other, take_more, drop_more, take-append-drop, map-append}
use Rattle.std.proofs.lemmas.List.Elements.{All-nil, All-cons, All-append}
use Rattle.std.proofs.lemmas.Bool.{true≢false}
use Rattle.tasks.specs.Bounds.{Lawful}
use Rattle.tasks.specs.Orders.{in_use}
use Rattle.tasks.specs.Tables.{EntryRefused}
use Rattle.tasks.specs.declared.fault.EntryFault.{EntryFault}
use Rattle.tasks.specs.declared.row.Row.{Row}
use Rattle.tasks.specs.declared.standing.Standing.{Standing}
use Rattle.samples.specs.Rosters.{Holds, Stops}

-- a task is entered in an empty place and stands below the others
abbrev pub Taken : Standing → ℕ → Row → Standing → Type 0
Taken s n r u = Lawful n r × (in_use s.table.places n ≡ false) × (u.table.places ≡ set s.table.places n (Some r)) × (u.order ≡ s.order ++ n ∷ [])

abbrev At : Standing → ℕ × Row → Type 0
At s t = get_or s.table.places t.0 None ≡ Some t.1

-- a task that stands is in another place
kept : (s u : Standing) (n : ℕ) (r : Row) (t : ℕ × Row) → Taken s n r u → At s t → At u t
kept s u n r t k a =
    let other : t.0 ≡ n → ⊥ = λ q. true≢false (sym (ap is_some a) ∙ ap (in_use s.table.places) q ∙ k.1) in
    ap (λ ps. get_or ps t.0 None) k.2 ∙ get_or-set_other s.table.places n t.0 (Some r) None other ∙ a

own : (s u : Standing) (n : ℕ) (r : Row) → Taken s n r u → At u (n, r)
own s u n r k = ap (λ ps. get_or ps n None) k.2 ∙ get_or-set_same s.table.places n (Some r) None (omega (arith, s.table.full, k.0.0))

more : (ts : List (ℕ × Row)) (s u : Standing) (n : ℕ) (r : Row) → Holds ts s → Taken s n r u → Holds (ts ++ (n, r) ∷ []) u
more ts s u n r h k = (
  k.3 ∙ ap (λ xs. xs ++ n ∷ []) h.0 ∙ sym (map-append (λ (t : ℕ × Row). t.0) ts ((n, r) ∷ [])),
  All-append (At u) ts ((n, r) ∷ []) (λ i d l. kept s u n r _ k (h.1 i d l)) (All-cons (At u) (n, r) [] (own s u n r k) (All-nil (At u))),
)

pub goes_on : (ts : List (ℕ × Row)) (i : ℕ) (d : ℕ × Row) (s u : Standing) → i < length ts → Holds (take i ts) s → Taken s (get_or ts i d).0 (get_or ts i d).1 u → Holds (take (i + 1) ts) u
goes_on ts i d s u l h k = subst (λ xs. Holds xs u) (sym (take_more ts i d l)) (more (take i ts) s u (get_or ts i d).0 (get_or ts i d).1 h k)

pub stops : (ts : List (ℕ × Row)) (i : ℕ) (d : ℕ × Row) (s : Standing) (f : EntryFault) → i < length ts → Holds (take i ts) s → EntryRefused s.table.places (get_or ts i d).0 (get_or ts i d).1 f → Stops ts f
stops ts i d s f l h r = (take i ts, drop (i + 1) ts, get_or ts i d, s, sym (take-append-drop i ts) ∙ ap (λ xs. take i ts ++ xs) (drop_more ts i d l), h, r)
