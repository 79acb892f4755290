-- The four tests keep both laws. Assumes nothing.
use Rattle.std.specs.Prelude.{◌≡◌, ℕ, zero, suc, ◌+◌, ◌-◌, ◌^◌, ◌≤◌, Bool, true, false, cond, ◌||◌, List, [], ◌∷◌, None, Option, ◌==◌, ◌≢◌, nat_le, slice_index_or, slice_set, refl}
use Rattle.std.proofs.Common.{le_trans, le_of_eq, add-le-add, sym, ap, ◌∙◌, subst, inl, inr, arith}
use Rattle.std.proofs.lemmas.List.{get_or-set_other}
use Rattle.std.proofs.lemmas.Bool.{leb-true, le-leb, cases_eq, and_parts, cond-false}
use Rattle.tasks.specs.Changes.{Emptied}
use Rattle.tasks.specs.Sets.{member, excluding}
use Rattle.tasks.specs.declared.row.Row.{Row}
use Rattle.tasks.specs.declared.table.Table.{Table}
use Rattle.tasks.proofs.Places.{some_row, on_table}
use Rattle.tasks.proofs.Sets.{member_excluding}
use Rattle.demand.specs.Demand.{demand, search_end}
use Rattle.demand.specs.Present.{some_up_to, present}
use Rattle.demand.specs.declared.mode.Mode.{Mode}
use Rattle.demand.specs.declared.mode.Mode.TheVariants.{Normal}
use Rattle.demand.proofs.Monotone.{Within, demand_within, demand_emptied}
use Rattle.demand.proofs.Present.{some_at, some_found, present_within, present_emptied}
use Rattle.schedulability.specs.Laws.{Raise, Removal}
use Rattle.schedulability.specs.Proper.{Proper, guarded}
use Rattle.schedulability.specs.Guards.{guarded_raise, guarded_removal, other_place}
use Rattle.tests.specs.Rules.{of_task, responds, section_at, section_if_below, blocking, unblocked, utilization, load, loaded}
use Rattle.tests.specs.Places.{of_task_at, sum_mono, largest_mono, emptied}
use Rattle.tests.specs.Blocking.{raise_asks_less, other_below}

within : (h j : ℕ) → Within (excluding h j) h
within h j i y = (and_parts (member h i) _ (sym (member_excluding h j i) ∙ y)).0

-- a question about the same task on a table with another place emptied
of_other : (t u : Table) (k j : ℕ) (f g : Row → Bool) → Emptied t j u → (j ≢ k) → ((r : Row) → f r ≡ true → g r ≡ true) → of_task (slice_index_or t.places k None) f ≡ true → of_task (slice_index_or u.places k None) g ≡ true
of_other t u k j f g e n h y = subst (λ o. of_task o g ≡ true) (sym (other_place t u k j e n)) (of_task_at (slice_index_or t.places k None) f g (λ r _. h r) y)

pub in_time_raise : (m : Mode) → Raise (guarded (responds m))
in_time_raise m = guarded_raise (responds m) (λ t k h j p. of_task_at (slice_index_or t.places k None) _ _ (λ r _. present_within m t.places r (excluding h j) h (within h j)))

pub in_time_removal : (m : Mode) → Removal (guarded (responds m))
in_time_removal m =
    guarded_removal (responds m)
    (λ t u k h j e n p. of_other t u k j _ _ e n
    (λ r y. subst (λ ps. present m ps r (excluding h j) ≡ true) (sym e) (present_emptied m t.places j r (excluding h j) (present_within m t.places r (excluding h j) h (within h j) y))))

pub load_raise : (limit : ℕ) → Raise (guarded (loaded limit))
load_raise limit = guarded_raise (loaded limit) (λ t k h j p y. y)

load_emptied : (ps : List (Option Row)) (j : ℕ) → load (slice_set ps j None) ≤ load ps
load_emptied ps j = sum_mono 32 (λ n. utilization (slice_index_or (slice_set ps j None) n None)) (λ n. utilization (slice_index_or ps n None)) (emptied utilization refl ps j)

pub load_removal : (limit : ℕ) → Removal (guarded (loaded limit))
load_removal limit =
    guarded_removal (loaded limit) (λ t u k h j e n p y. le-leb _ _ (omega (arith, leb-true _ _ y, ap load e, load_emptied t.places j)))

-- for some t, less is asked
some_less : (p q : ℕ → ℕ) (end : ℕ) → ((t : ℕ) → 1 ≤ t → q t ≤ p t) → some_up_to (λ t. nat_le (p t) t) end ≡ true → some_up_to (λ t. nat_le (q t) t) end ≡ true
some_less p q end l y = let f = some_found (λ t. nat_le (p t) t) end y in some_at (λ t. nat_le (q t) t) end f.0 f.1 f.2 (le-leb _ _ (le_trans (l f.0 f.1) (leb-true _ _ f.3)))

pub sections_raise : Raise (guarded unblocked)
sections_raise = guarded_raise unblocked (λ t k h j p. of_task_at (slice_index_or t.places k None) _ _ (λ r _ y. by_member t k h j r p y (member h j) refl)) where
  by_member : (t : Table) (k h j : ℕ) (r : Row) → Proper t k h → some_up_to (λ n. nat_le (demand Normal t.places r h n + blocking t.places k h) n) (search_end r) ≡ true → (b : Bool) → member h j ≡ b
      → some_up_to (λ n. nat_le (demand Normal t.places r (excluding h j) n + blocking t.places k (excluding h j)) n) (search_end r) ≡ true
  by_member t k h j r p y true e =
      let s = some_row (slice_index_or t.places j None) (p.2 j e) in
      some_less (λ n. demand Normal t.places r h n + blocking t.places k h) (λ n. demand Normal t.places r (excluding h j) n + blocking t.places k (excluding h j)) (search_end r)
      (λ n l. raise_asks_less t.places r s.0 k h j n (on_table t j (p.2 j e)) s.1 (t.times j s.0 s.1, t.window j s.0 s.1, t.section j s.0 s.1) e l) y
  by_member t k h j r p y false e =
      subst (λ g. some_up_to (λ n. nat_le (demand Normal t.places r g n + blocking t.places k g) n) (search_end r) ≡ true) (sym (cond-false (member h j) (h - 2 ^ j) h e)) y

-- an emptied place holds nothing up
below_emptied : (ps : List (Option Row)) (k h j i : ℕ) → section_if_below (slice_set ps j None) k (excluding h j) i ≤ section_if_below ps k h i
below_emptied ps k h j i = elim (cases_eq i j) [
  | inl same ↦ omega (arith, none_at same)
  | inr other ↦ le_of_eq (other_below (slice_set ps j None) k h j i other ∙ ap (λ o. cond (i == k || member h i) 0 (section_at o)) (get_or-set_other ps j i None None other))
] where
  gone : (qs : List (Option Row)) (n : ℕ) → section_at (slice_index_or (slice_set qs n None) n None) ≡ 0
  gone [] n = refl
  gone (q ∷ qs) zero = refl
  gone (q ∷ qs) (suc n) = gone qs n

  none_at : i ≡ j → section_if_below (slice_set ps j None) k (excluding h j) i ≡ 0
  none_at same = ap (λ s. cond (i == k || member (excluding h j) i) 0 s) (ap (λ n. section_at (slice_index_or (slice_set ps j None) n None)) same ∙ gone ps j) ∙ always (i == k || member (excluding h j) i) where
    always : (b : Bool) → ◌≡◌ {A = ℕ} (cond b 0 0) 0
    always true = refl
    always false = refl

pub sections_removal : Removal (guarded unblocked)
sections_removal =
    guarded_removal unblocked
    (λ t u k h j e n p. of_other t u k j _ _ e n
    (λ r y. subst (λ ps. some_up_to (λ x. nat_le (demand Normal ps r (excluding h j) x + blocking ps k (excluding h j)) x) (search_end r) ≡ true) (sym e)
    (some_less (λ x. demand Normal t.places r h x + blocking t.places k h) (λ x. demand Normal (slice_set t.places j None) r (excluding h j) x + blocking (slice_set t.places j None) k (excluding h j)) (search_end r)
    (λ x l. add-le-add (le_trans (demand_emptied Normal t.places j r (excluding h j) x) (demand_within Normal t.places r (excluding h j) h x (within h j))) (largest_mono 32 _ _ (below_emptied t.places k h j))) y)))
