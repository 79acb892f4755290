-- The table that entries fill, one entry more. Assumes nothing.
use Rattle.std.proofs.Common.{◌≡◌, ℕ, zero, suc, ◌<◌, Bool, true, false, cond, eqb, List, [], ◌∷◌, ◌++◌, length, get_or, set, replicate, is_some, is_ok, Some, None, Ok, Err, Option, Result, sym, refl, ap, ◌∙◌, subst, inl, inr, arith, MatchResult}
use Rattle.std.proofs.lemmas.List.{append-nil, get_or-set_same, get_or-set_other}
use Rattle.std.proofs.lemmas.Bool.{cases_eq, eq-eqb, ne_eqb, cond-true, cond-false}
use Rattle.std.specs.Option.{option_to_list}
use Rattle.tasks.specs.Orders.{in_use}
use Rattle.tasks.specs.declared.row.Row.{Row}
use Rattle.roster_file.specs.Entries.{under, Holds}
use Rattle.roster_file.specs.declared.task_section.TaskEntry.{TaskEntry}

pub one_or_none : {X : Type 0} (o : Option X) → length (option_to_list o) ≡ cond (is_some o) 1 0
one_or_none None = refl
one_or_none (Some x) = refl

pub under_own : (n : ℕ) (e : TaskEntry) (es : List TaskEntry) → e.number ≡ n → under n (e ∷ es) ≡ e.row ∷ under n es
under_own n e es q = cond-true _ _ _ (eq-eqb e.number n q)

pub under_other : (n : ℕ) (e : TaskEntry) (es : List TaskEntry) → (e.number ≡ n → ⊥) → under n (e ∷ es) ≡ under n es
under_other n e es q = cond-false _ _ _ (ne_eqb e.number n q)

pub under_append : (n : ℕ) (es fs : List TaskEntry) → under n (es ++ fs) ≡ under n es ++ under n fs
under_append n [] fs = refl
under_append n (e ∷ es) fs = by_number (eqb e.number n) (under_append n es fs) where
  by_number : (b : Bool) → under n (es ++ fs) ≡ under n es ++ under n fs → cond b (e.row ∷ under n (es ++ fs)) (under n (es ++ fs)) ≡ cond b (e.row ∷ under n es) (under n es) ++ under n fs
  by_number true r = ap (λ rs. e.row ∷ rs) r
  by_number false r = r

nothing : (o : Option Row) → in_use (o ∷ []) 0 ≡ false → option_to_list o ≡ []
nothing None e = refl
nothing (Some r) e = absurd (grind arith)

empty_place : (m n : ℕ) → ◌≡◌ {A = Option Row} (get_or (replicate m None) n None) None
empty_place zero n = refl
empty_place (suc m) zero = refl
empty_place (suc m) (suc n) = empty_place m n

-- no entry fills an empty table
pub holds_none : (ps : List (Option Row)) → ps ≡ replicate 32 None → Holds [] ps
holds_none ps e n = sym (ap (λ xs. option_to_list (get_or xs n None)) e ∙ ap option_to_list (empty_place 32 n))

-- an empty place takes the next entry
pub holds_more : (es : List TaskEntry) (e : TaskEntry) (ps qs : List (Option Row)) → e.number < length ps → in_use ps e.number ≡ false → qs ≡ set ps e.number (Some e.row) → Holds es ps → Holds (es ++ (e ∷ [])) qs
holds_more es e ps qs lt free eq h n = under_append n es (e ∷ []) ∙ elim (cases_eq n e.number) [ inl same ↦ at same | inr other ↦ beside other ] where
  at : n ≡ e.number → under n es ++ under n (e ∷ []) ≡ option_to_list (get_or qs n None)
  at same =
      let u : under n es ≡ [] = h n ∙ ap (λ k. option_to_list (get_or ps k None)) same ∙ nothing (get_or ps e.number None) free in
      let v : eqb e.number n ≡ true = eq-eqb _ _ (sym same) in
      let w : get_or qs n None ≡ Some e.row = ap (λ k. get_or qs k None) same ∙ ap (λ xs. get_or xs e.number None) eq ∙ get_or-set_same ps e.number (Some e.row) None lt in
      rw (u, v, w) refl

  beside : (n ≡ e.number → ⊥) → under n es ++ under n (e ∷ []) ≡ option_to_list (get_or qs n None)
  beside other =
      let v : eqb e.number n ≡ false = ne_eqb _ _ (λ q. other (sym q)) in
      let w : get_or qs n None ≡ get_or ps n None = ap (λ xs. get_or xs n None) eq ∙ get_or-set_other ps e.number n (Some e.row) None other in
      rw (v, w) (append-nil (under n es) ∙ h n)

-- what holds of the value in an answer, whatever the error is told as
pub mapped : {T E F : Type 0} (P : T → Type 0) (Q K : E → Type 0) (r : Result T E) (q : Result T F) (x : T) → MatchResult r P Q → MatchResult r (λ v. q ≡ Ok v) K → is_ok q ≡ is_ok r → q ≡ Ok x → P x
mapped P Q K (Ok v) q x p e s w = let same : v ≡ x = cc in subst P same p
mapped P Q K (Err f) q x p e s w = absurd (let z = sym s ∙ ap is_ok w in grind arith)
