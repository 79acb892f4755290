-- A table is told by the entries that fill it, and each entry stands in its place. Assumes nothing.
use Rattle.std.proofs.Common.{◌≡◌, ℕ, List, [], ◌∷◌, ◌++◌, get_or, Some, None, Option, sym, refl, ap, ◌∙◌, subst, inl, inr, arith}
use Rattle.std.proofs.lemmas.List.{append_assoc, same_lists, get_or_default, get_or_past}
use Rattle.std.proofs.lemmas.Bool.{cases_lt}
use Rattle.std.specs.Option.{option_to_list}
use Rattle.std.specs.List.{AllByRecursion}
use Rattle.tasks.specs.Bounds.{Lawful}
use Rattle.tasks.specs.declared.row.Row.{Row}
use Rattle.tasks.specs.declared.table.Table.{Table}
use Rattle.tasks.proofs.Same.{same_table}
use Rattle.roster_file.specs.Entries.{under, Holds, TaskFits}
use Rattle.roster_file.specs.declared.task_section.TaskEntry.{TaskEntry}
use Rattle.roster_file.proofs.Holding.{under_own, under_append}

list_of_same : (o p : Option Row) → option_to_list o ≡ option_to_list p → o ≡ p
list_of_same None None e = refl
list_of_same None (Some r) e = absurd (grind arith)
list_of_same (Some r) None e = absurd (grind arith)
list_of_same (Some r) (Some s) e = let q : r ≡ s = cc in ap Some q

-- two tables that the same entries fill are the same
pub same_filled : (es fs : List TaskEntry) (t u : Table) → es ≡ fs → Holds es t.places → Holds fs u.places → t ≡ u
same_filled es fs t u e h k =
    same_table t u
    (same_lists t.places u.places (t.full ∙ sym u.full)
    (λ n d l. get_or_default t.places n d None l ∙ list_of_same _ _ (sym (h n) ∙ ap (under n) e ∙ k n) ∙ get_or_default u.places n None d (omega (arith, t.full, u.full))))

-- of a list with one entry at most, a part that is there is all of it
alone : (o : Option Row) (us vs : List Row) (r : Row) → option_to_list o ≡ us ++ (r ∷ vs) → (o ≡ Some r) × (us ≡ [])
alone None [] vs r e = absurd (grind arith)
alone None (u ∷ us) vs r e = absurd (grind arith)
alone (Some s) [] vs r e = let q : s ≡ r = cc in (ap Some q, refl)
alone (Some s) (u ∷ []) vs r e = absurd (grind arith)
alone (Some s) (u ∷ (w ∷ us)) vs r e = absurd (grind arith)

-- each entry stands in its place, and none before it has its number
pub stands : (es more : List TaskEntry) (e : TaskEntry) (ps : List (Option Row)) → Holds (es ++ (e ∷ more)) ps → (get_or ps e.number None ≡ Some e.row) × (under e.number es ≡ [])
stands es more e ps h = alone (get_or ps e.number None) (under e.number es) (under e.number more) e.row (sym (h e.number) ∙ under_append e.number es (e ∷ more) ∙ ap (λ rs. under e.number es ++ rs) (under_own e.number e more refl))

-- what stands in a table is lawful
pub lawful : (t : Table) (n : ℕ) (r : Row) → get_or t.places n None ≡ Some r → Lawful n r
lawful t n r e = (elim (cases_lt n 32) [ inl below ↦ omega arith | inr past ↦ absurd (let p = get_or_past t.places n None (omega (arith, t.full)) in grind arith) ], (t.times n r e, t.window n r e, t.section n r e))

pub fits : (e : TaskEntry) → Lawful e.number e.row → TaskFits e
fits e (n, (t, w, s)) = (omega arith, (omega arith, (omega arith, (omega arith, (omega arith, (omega arith, tt))))))

-- so each entry fits its bytes
all_fit : (pre es : List TaskEntry) (t : Table) → Holds (pre ++ es) t.places → AllByRecursion TaskFits es
all_fit pre [] t h = tt
all_fit pre (e ∷ es) t h = (fits e (lawful t e.number e.row (stands pre es e t.places h).0), all_fit (pre ++ (e ∷ [])) es t (subst (λ xs. Holds xs t.places) (sym (append_assoc pre (e ∷ []) es)) h))

pub filled_fit : (es : List TaskEntry) (t : Table) → Holds es t.places → AllByRecursion TaskFits es
filled_fit es t h = all_fit [] es t h
