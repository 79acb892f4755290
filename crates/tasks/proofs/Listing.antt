-- How a list of numbers is compared with the tasks of a table, number by number. Assumes nothing.
use Rattle.std.proofs.Common.{◌≡◌, ℕ, ◌+◌, ◌<◌, ◌≤◌, Bool, true, false, cond, not, ◌&&◌, eqb, List, [], ◌∷◌, ◌++◌, length, get_or, set, take, drop, replicate, is_some, Some, None, Decides, Option, sym, ap, ◌∙◌, subst, inl, inr, arith}
use Rattle.std.proofs.lemmas.List.{take_more, take_all, drop_more, take-append-drop, get_or-set_same, get_or-set_other}
use Rattle.std.proofs.lemmas.Bool.{cases_Bool, cases_eq, eqb-true, eq-eqb, ne_eqb, cond-true, cond-false}
use Rattle.std.proofs.lemmas.Bool.Decides.{nat_tests}
use Rattle.tasks.specs.declared.row.Row.{Row}
use Rattle.tasks.specs.Orders.{occurs, in_use, Lists}
use Rattle.tasks.specs.Sets.{member}
use Rattle.tasks.proofs.Members.{occurs_same}
use Rattle.tasks.proofs.Places.{none_at}
use Rattle.tasks.proofs.Sets.{member_none, bits_from_members}

pub occurs_append : (n : ℕ) (xs ys : List ℕ) → occurs n (xs ++ ys) ≡ occurs n xs + occurs n ys
occurs_append n [] ys = omega arith
occurs_append n (x ∷ xs) ys = omega (arith, occurs_append n xs ys)

-- a number is named at its place, before it and behind it
occurs_at : (xs : List ℕ) (i : ℕ) → i < length xs → occurs (get_or xs i 0) xs ≡ occurs (get_or xs i 0) (take i xs) + (1 + occurs (get_or xs i 0) (drop (i + 1) xs))
occurs_at xs i l =
    let x = get_or xs i 0 in
    let o = ap (occurs x) (sym (take-append-drop i xs)) ∙ occurs_append x (take i xs) (drop i xs) in
    let d = ap (occurs x) (drop_more xs i 0 l) ∙ occurs_same x (drop (i + 1) xs) in
    omega arith

-- the number at a place of a list of the tasks is that of a task
pub listed_in_use : (xs : List ℕ) (ps : List (Option Row)) (i : ℕ) → i < length xs → Lists xs ps → in_use ps (get_or xs i 0) ≡ true
listed_in_use xs ps i l s =
    let x = get_or xs i 0 in
    elim (cases_Bool (in_use ps x)) [ inl m ↦ m | inr m ↦ absurd (omega (arith, s x, occurs_at xs i l, cond-false {A = ℕ} (in_use ps x) 1 0 m)) ]

-- an empty table has no task to name
pub none_listed : (xs : List ℕ) (ps : List (Option Row)) → xs ≡ [] → ps ≡ replicate 32 None → Lists xs ps
none_listed xs ps e f = subst (λ ys. Lists ys ps) (sym e) (subst (Lists []) (sym f) (λ n. sym (cond-false {A = ℕ} _ 1 0 (ap is_some (none_at 32 n)))))

-- a task put in an empty place is one more to name, wherever the list names it
pub put_listed : (ps : List (Option Row)) (n : ℕ) (r : Row) (xs ys : List ℕ) → length ps ≡ 32 → n < 32 → in_use ps n ≡ false → Lists xs ps
    → ((m : ℕ) → occurs m ys ≡ occurs m (n ∷ xs)) → Lists ys (set ps n (Some r))
put_listed ps n r xs ys f l e s a m = elim (cases_eq n m) [
  | inl q ↦ let own = ap is_some (ap (λ x. get_or (set ps n (Some r)) x None) (sym q) ∙ get_or-set_same ps n (Some r) None (omega (arith, f))) in
      omega (arith, a m, cond-true {A = ℕ} (eqb n m) 1 0 (eq-eqb n m q), s m, cond-false {A = ℕ} (in_use ps m) 1 0 (ap (in_use ps) (sym q) ∙ e), cond-true {A = ℕ} (in_use (set ps n (Some r)) m) 1 0 own)
  | inr q ↦ let other = ap (λ o. cond {A = ℕ} (is_some o) 1 0) (get_or-set_other ps n m (Some r) None (λ z. q (sym z))) in
      omega (arith, a m, cond-false {A = ℕ} (eqb n m) 1 0 (ne_eqb n m q), s m, other)
]

-- the first i numbers name tasks of the table, each once, and h holds the others
abbrev pub Left : List ℕ → ℕ → ℕ → List (Option Row) → Type 0
Left xs i h ps = (n : ℕ) → occurs n (take i xs) + cond (member h n) 1 0 ≡ cond (in_use ps n) 1 0

-- a member counts as much alone and in the set without it as in the whole set
pub taken : (x n : ℕ) (b : Bool) → (x ≡ n → b ≡ true) → cond (eqb x n) 1 0 + cond (b && not (eqb n x)) 1 0 ≡ cond b 1 0
taken x n true e = grind (arith, nat_tests)
taken x n false e = grind (arith, nat_tests)

pub left_more : (xs : List ℕ) (i h k : ℕ) (ps : List (Option Row)) → i < length xs → Left xs i h ps → member h (get_or xs i 0) ≡ true
    → ((n : ℕ) → member k n ≡ (member h n && not (eqb n (get_or xs i 0)))) → Left xs (i + 1) k ps
left_more xs i h k ps l e m r n =
    let x = get_or xs i 0 in
    let t = taken x n (member h n) (λ q. ap (member h) (sym q) ∙ m) in
    let o : occurs n (take (i + 1) xs) ≡ occurs n (take i xs) + (cond (eqb x n) 1 0 + 0) = ap (occurs n) (take_more xs i 0 l) ∙ occurs_append n (take i xs) (x ∷ []) in
    let c : cond {A = ℕ} (member k n) 1 0 ≡ cond (member h n && not (eqb n x)) 1 0 = ap (λ b. cond b 1 0) (r n) in
    omega (arith, e n)

-- a number that is not left is named too often
pub left_not : (xs : List ℕ) (i h : ℕ) (ps : List (Option Row)) → i < length xs → Left xs i h ps → member h (get_or xs i 0) ≡ false → Lists xs ps → ⊥
left_not xs i h ps l e m s =
    let x = get_or xs i 0 in
    omega (arith, e x, s x, occurs_at xs i l, cond-false {A = ℕ} (member h x) 1 0 m)

pub left_end : (xs : List ℕ) (i h : ℕ) (ps : List (Option Row)) → length xs ≤ i → Left xs i h ps → Decides (eqb h 0) (Lists xs ps)
left_end xs i h ps l e = (
  λ z n. let q = ap (λ x. cond {A = ℕ} (member x n) 1 0) (eqb-true h 0 z) ∙ cond-false {A = ℕ} (member 0 n) 1 0 (member_none n) in
      omega (arith, e n, ap (occurs n) (take_all i xs l)),
  λ s. eq-eqb h 0 (bits_from_members h 0 (λ n. not_left n (s n) ∙ sym (member_none n))),
) where
  not_left : (n : ℕ) → occurs n xs ≡ cond (in_use ps n) 1 0 → member h n ≡ false
  not_left n s = elim (cases_Bool (member h n)) [
    | inl m ↦ absurd (omega (arith, e n, s, ap (occurs n) (take_all i xs l), cond-true {A = ℕ} (member h n) 1 0 m))
    | inr m ↦ m
  ]
