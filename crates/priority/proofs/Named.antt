-- The set of the tasks that a list names. Assumes nothing.
use Rattle.std.proofs.Common.{◌≡◌, ℕ, ◌+◌, Bool, true, false, cond, ◌||◌, eqb, ltb, List, [], ◌∷◌, ◌++◌, reverse, Option, sym, refl, ap, ◌∙◌, arith}
use Rattle.std.proofs.lemmas.List.{reverse-append}
use Rattle.std.proofs.lemmas.Bool.Decides.{nat_tests}
use Rattle.tasks.specs.Orders.{occurs, in_use, Lists}
use Rattle.tasks.specs.declared.row.Row.{Row}
use Rattle.tasks.specs.Sets.{member, including}
use Rattle.tasks.proofs.Listing.{occurs_append}
use Rattle.tasks.proofs.Sets.{member_none, member_including, bits_from_members}
use Rattle.priority.specs.Passing.{named}

either : (o x n : ℕ) → (ltb 0 o || eqb n x) ≡ ltb 0 (cond (eqb x n) 1 0 + o)
either o x n = grind (arith, nat_tests)

pub member_named : (xs : List ℕ) (n : ℕ) → member (named xs) n ≡ ltb 0 (occurs n xs)
member_named [] n = member_none n
member_named (x ∷ xs) n = member_including (named xs) x n ∙ ap (λ b. b || eqb n x) (member_named xs n) ∙ either (occurs n xs) x n

-- one more task is named
pub named_more : (xs : List ℕ) (x : ℕ) → named (xs ++ x ∷ []) ≡ including (named xs) x
named_more xs x = bits_from_members _ _ (λ n. member_named (xs ++ x ∷ []) n ∙ ap (ltb 0) (occurs_append n xs (x ∷ []) ∙ omega arith) ∙ sym (either (occurs n xs) x n) ∙ ap (λ b. b || eqb n x) (sym (member_named xs n)) ∙ sym (member_including (named xs) x n))

positive : (b : Bool) → ltb 0 (cond b 1 0) ≡ b
positive true = refl
positive false = refl

-- a list that names each task of a set names that set
pub named_is : (xs : List ℕ) (a : ℕ) → ((n : ℕ) → occurs n xs ≡ cond (member a n) 1 0) → named xs ≡ a
named_is xs a e = bits_from_members (named xs) a (λ n. member_named xs n ∙ ap (ltb 0) (e n) ∙ positive (member a n))

-- a list that names each task of a table names the tasks in use
pub named_in_use : (xs : List ℕ) (ps : List (Option Row)) → Lists xs ps → (n : ℕ) → member (named xs) n ≡ in_use ps n
named_in_use xs ps l n = member_named xs n ∙ ap (ltb 0) (l n) ∙ positive (in_use ps n)

-- the other way round it names the same as often
pub occurs_reverse : (n : ℕ) (xs : List ℕ) → occurs n (reverse xs) ≡ occurs n xs
occurs_reverse n [] = refl
occurs_reverse n (x ∷ xs) = ap (occurs n) (reverse-append (x ∷ []) xs) ∙ occurs_append n (reverse xs) (x ∷ []) ∙ omega (arith, occurs_reverse n xs)
