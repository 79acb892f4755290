-- Places filled from the lowest up, and the order that this gives. Assumes nothing.
use Rattle.std.proofs.Common.{◌≡◌, ℕ, ◌+◌, Bool, true, false, cond, not, ◌&&◌, eqb, List, [], ◌∷◌, ◌++◌, reverse, sym, refl, ap, ◌∙◌, subst, arith}
use Rattle.std.proofs.lemmas.List.{append_assoc, reverse-append, reverse-reverse}
use Rattle.std.proofs.lemmas.Bool.Decides.{nat_tests}
use Rattle.tasks.specs.Orders.{occurs}
use Rattle.tasks.specs.Sets.{member, excluding}
use Rattle.tasks.proofs.Listing.{taken}
use Rattle.tasks.proofs.Sets.{member_none, member_excluding, bits_from_members}
use Rattle.priority.specs.Passing.{named, AtEachPlace}
use Rattle.priority.specs.Fillings.{Filled}
use Rattle.priority.proofs.Named.{named_is, occurs_reverse}
use Rattle.priority.proofs.Raising.{Within}
use Rattle.priority.proofs.Walks.{left_member}

-- what is chosen by a stronger rule is chosen by a weaker one
pub filled_by : (P Q : ℕ → ℕ → Type 0) → ((h k : ℕ) → P h k → Q h k) → (a : ℕ) (ks : List ℕ) (b : ℕ) → Filled P a ks b → Filled Q a ks b
filled_by P Q w a [] b f = f
filled_by P Q w a (k ∷ ks) b (m, p, f) = (m, w (excluding a k) k p, filled_by P Q w (excluding a k) ks b f)

-- the reverse of a list that goes on
reverse_cons : (k : ℕ) (ks : List ℕ) → reverse (k ∷ ks) ≡ reverse ks ++ k ∷ []
reverse_cons k ks = reverse-append (k ∷ []) ks

module _ (P : ℕ → ℕ → Type 0) where
  -- one more place is filled
  pub filled_more : (a : ℕ) (ks : List ℕ) (b k : ℕ) → Filled P a ks b → member b k ≡ true → P (excluding b k) k → Filled P a (ks ++ k ∷ []) (excluding b k)
  filled_more a [] b k e m p = subst (λ x. (member x k ≡ true) × P (excluding x k) k × (excluding x k ≡ excluding b k)) (sym e) (m, p, refl)
  filled_more a (x ∷ ks) b k (u, v, f) m p = (u, v, filled_more (excluding a x) ks b k f m p)

  pub filled_within : (a : ℕ) (ks : List ℕ) (b : ℕ) → Filled P a ks b → Within b a
  filled_within a [] b e j m = ap (λ x. member x j) e ∙ m
  filled_within a (k ∷ ks) b (u, v, f) j m = left_member a k j (filled_within (excluding a k) ks b f j m)

  -- each task has a place once, or is left
  pub filled_once : (a : ℕ) (ks : List ℕ) (b : ℕ) → Filled P a ks b → (n : ℕ) → occurs n ks + cond (member b n) 1 0 ≡ cond (member a n) 1 0
  filled_once a [] b e n = omega (arith, ap (λ x. cond {A = ℕ} (member x n) 1 0) e)
  filled_once a (k ∷ ks) b (u, v, f) n =
      let r = filled_once (excluding a k) ks b f n in
      let s : cond {A = ℕ} (member (excluding a k) n) 1 0 ≡ cond (member a n && not (eqb n k)) 1 0 = ap (λ x. cond x 1 0) (member_excluding a k n) in
      omega (arith, taken k n (member a n) (λ e. ap (member a) (sym e) ∙ u))

  filled_all : (a : ℕ) (ks : List ℕ) → Filled P a ks 0 → (n : ℕ) → occurs n ks ≡ cond (member a n) 1 0
  filled_all a ks f n = omega (arith, filled_once a ks 0 f n, ap (λ x. cond {A = ℕ} x 1 0) (member_none n))

  -- the task in the middle
  filled_at : (a : ℕ) (us : List ℕ) (k : ℕ) (ws : List ℕ) (b : ℕ) → Filled P a (us ++ k ∷ ws) b → (h : ℕ) × P h k × Filled P h ws b
  filled_at a [] k ws b (u, v, f) = (excluding a k, v, f)
  filled_at a (x ∷ us) k ws b (u, v, f) = filled_at (excluding a x) us k ws b f

  -- filled until nothing is left, the places are those of an order
  pub filled_each : (a : ℕ) (us : List ℕ) → Filled P a us 0 → AtEachPlace P (reverse us)
  filled_each a us f xs ys k e =
      let turned : us ≡ reverse ys ++ k ∷ reverse xs = sym (reverse-reverse us) ∙ ap reverse e ∙ reverse-append xs (k ∷ ys) ∙ ap (λ l. l ++ reverse xs) (reverse_cons k ys) ∙ append_assoc (reverse ys) (k ∷ []) (reverse xs) in
      let m = filled_at a (reverse ys) k (reverse xs) 0 (subst (λ l. Filled P a l 0) turned f) in
      subst (λ h. P h k) (sym (named_is xs m.0 (λ n. sym (occurs_reverse n xs) ∙ filled_all m.0 (reverse xs) m.2 n))) m.1

  -- and the other way round
  pub each_filled : (a : ℕ) (us : List ℕ) → ((n : ℕ) → occurs n us ≡ cond (member a n) 1 0) → AtEachPlace P (reverse us) → Filled P a us 0
  each_filled a [] e p = bits_from_members a 0 (λ n. none (member a n) (sym (e n)) ∙ sym (member_none n)) where
    none : (b : Bool) → cond {A = ℕ} b 1 0 ≡ 0 → b ≡ false
    none true q = absurd (omega arith)
    none false q = refl
  each_filled a (k ∷ us) e p = (here, subst (λ h. P h k) last (p (reverse us) [] k (reverse_cons k us)), each_filled (excluding a k) us rest (λ xs ys j q. p xs (ys ++ k ∷ []) j (reverse_cons k us ∙ ap (λ l. l ++ k ∷ []) q ∙ append_assoc xs (j ∷ ys) (k ∷ [])))) where
    here : member a k ≡ true
    here = there (member a k) (e k) where
      there : (b : Bool) → cond (eqb k k) 1 0 + occurs k us ≡ cond b 1 0 → b ≡ true
      there true q = refl
      there false q = absurd (grind (arith, nat_tests))

    rest : (n : ℕ) → occurs n us ≡ cond (member (excluding a k) n) 1 0
    rest n =
        let s : cond {A = ℕ} (member (excluding a k) n) 1 0 ≡ cond (member a n && not (eqb n k)) 1 0 = ap (λ x. cond x 1 0) (member_excluding a k n) in
        omega (arith, e n, taken k n (member a n) (λ q. ap (member a) (sym q) ∙ here))

    last : named (reverse us) ≡ excluding a k
    last = named_is (reverse us) (excluding a k) (λ n. occurs_reverse n us ∙ rest n)
