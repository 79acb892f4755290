-- A table and an order have one canonical file: the tasks of the table by rising number, then the order. Assumes nothing.
use Rattle.std.proofs.Common.{◌≡◌, ℕ, zero, suc, ◌+◌, ◌*◌, ◌<◌, ◌≤◌, List, [], ◌∷◌, ◌++◌, length, get_or, take, Some, None, Ok, Option, Result, sym, refl, ap, ◌∙◌, subst, inl, inr, arith, length-append}
use Rattle.std.proofs.ByRecursion.{All-push, All-weaker}
use Rattle.std.proofs.lemmas.List.{append-nil, get_or_past, take_all}
use Rattle.std.proofs.lemmas.Bool.{cases_lt, cases_eq}
use Rattle.std.specs.List.{flat_map, AllByRecursion, slice_get}
use Rattle.std.specs.Option.{option_map, option_to_list}
use Rattle.tasks.specs.declared.fault.SpaceFault.{SpaceFault}
use Rattle.tasks.specs.Orders.{Lists}
use Rattle.tasks.specs.declared.order.Order.{Order}
use Rattle.tasks.specs.declared.row.Row.{Row}
use Rattle.tasks.specs.declared.table.Table.{Table}
use Rattle.tasks.proofs.Few.{few}
use Rattle.roster_file.specs.Entries.{number_bytes, task_bytes, task_width, task_of, tasks_in, under, Holds, numbers_in}
use Rattle.roster_file.specs.Layout.{edition, Layout, Canonical, Rising, HoldsJust}
use Rattle.roster_file.specs.Sections.{below, entries, section_bytes}
use Rattle.tasks.specs.Spaces.{Written}
use Rattle.roster_file.specs.Writing.{assembled}
use Rattle.roster_file.specs.declared.task_section.TaskEntry.{TaskEntry}
use Rattle.roster_file.proofs.Alike.{entry_same}
use Rattle.roster_file.proofs.Holding.{under_own, under_other, under_append}
use Rattle.roster_file.proofs.Reading.{joined_each}
use Rattle.roster_file.proofs.Spaces.{front_of}
use Rattle.roster_file.proofs.Unique.{layout_one}
use Rattle.roster_file.proofs.Writing.{length_joined}

-- ---- one list of rising entries fills a table

-- no entry above a number has it
under_above : (n : ℕ) (es : List TaskEntry) → AllByRecursion (λ (e : TaskEntry). n < e.number) es → under n es ≡ []
under_above n [] a = refl
under_above n (e ∷ es) (l, a) = under_other n e es (λ q. omega arith) ∙ under_above n es a

-- the first entry of a list that rises is no higher than that of another with the same rows
first_low : (e f : TaskEntry) (es fs : List TaskEntry) → ((n : ℕ) → under n (e ∷ es) ≡ under n (f ∷ fs)) → Rising (f ∷ fs) → e.number < f.number → ⊥
first_low e f es fs h (a, r) l =
    let none = under_above e.number (f ∷ fs) (l, All-weaker _ _ (λ (g : TaskEntry) (k : f.number < g.number). omega arith) fs a) in
    let some : e.row ∷ under e.number es ≡ [] = sym (under_own e.number e es refl) ∙ h e.number ∙ none in
    grind arith

-- two entries with the same number, each before what rises from it, and the rest of both lists
level : (e f : TaskEntry) (es fs : List TaskEntry) → e.number ≡ f.number → ((n : ℕ) → under n (e ∷ es) ≡ under n (f ∷ fs)) → (e ≡ f) × ((n : ℕ) → under n es ≡ under n fs)
level e f es fs q h =
    let rows = sym (under_own e.number e es refl) ∙ h e.number ∙ under_own e.number f fs (sym q) in
    let row : e.row ≡ f.row = cc in
    let own : under e.number es ≡ under e.number fs = cc in
    (entry_same e f q row, λ n. elim (cases_eq e.number n) [ inl k ↦ subst (λ i. under i es ≡ under i fs) k own | inr k ↦ sym (under_other n e es k) ∙ h n ∙ under_other n f fs (λ z. k (q ∙ z)) ])

rising_same : (es fs : List TaskEntry) → Rising es → Rising fs → ((n : ℕ) → under n es ≡ under n fs) → es ≡ fs
rising_same [] [] r s h = refl
rising_same [] (f ∷ fs) r s h = let some : [] ≡ f.row ∷ under f.number fs = h f.number ∙ under_own f.number f fs refl in absurd (grind arith)
rising_same (e ∷ es) [] r s h = let some : e.row ∷ under e.number es ≡ [] = sym (under_own e.number e es refl) ∙ h e.number in absurd (grind arith)
rising_same (e ∷ es) (f ∷ fs) r s h = elim (cases_lt e.number f.number) [
  | inl l ↦ absurd (first_low e f es fs h s l)
  | inr k ↦ elim (cases_lt f.number e.number) [
    | inl l ↦ absurd (first_low f e fs es (λ n. sym (h n)) r l)
    | inr m ↦ let both = level e f es fs (omega arith) h in ap (λ x. x ∷ es) both.0 ∙ ap (λ xs. f ∷ xs) (rising_same es fs r.1 s.1 both.1)
  ]
]

-- the entries of a table and an order make one file
pub canonical_one : (bytes file : List ℕ) (t : Table) (order : List ℕ) → Canonical bytes t order → Canonical file t order → bytes ≡ file
canonical_one bytes file t order a b =
    let same = rising_same a.layout.entries b.layout.entries a.rising b.rising (λ n. a.layout.holds n ∙ sym (b.layout.holds n)) in
    a.layout.file ∙ ap (λ es. edition ∷ length es ∷ (flat_map task_bytes es ++ (length order ∷ order))) same ∙ sym b.layout.file

-- ---- the tasks of a table by rising number

-- the entries below a number have lower numbers
low_below : (ps : List (Option Row)) (k : ℕ) → AllByRecursion (λ (e : TaskEntry). e.number < k) (below (tasks_in ps) k)
unfolding below
low_below ps zero = tt
low_below ps (suc k) = by_any_place (get_or ps k None) (All-weaker _ _ (λ (e : TaskEntry) (l : e.number < k). omega arith) (below (tasks_in ps) k) (low_below ps k)) where
  by_any_place : (o : Option Row) → AllByRecursion (λ (e : TaskEntry). e.number < suc k) (below (tasks_in ps) k) → AllByRecursion (λ (e : TaskEntry). e.number < suc k) (below (tasks_in ps) k ++ option_to_list (option_map (task_of k) o))
  by_any_place None before = subst (AllByRecursion (λ (e : TaskEntry). e.number < suc k)) (sym (append-nil (below (tasks_in ps) k))) before
  by_any_place (Some r) before = All-push _ (below (tasks_in ps) k) (task_of k r) before (omega arith)

rising_push : (es : List TaskEntry) (f : TaskEntry) → Rising es → AllByRecursion (λ (e : TaskEntry). e.number < f.number) es → Rising (es ++ (f ∷ []))
rising_push [] f r a = (tt, tt)
rising_push (e ∷ es) f (l, r) (m, a) = (All-push _ es f l m, rising_push es f r a)

pub rising_below : (ps : List (Option Row)) (k : ℕ) → Rising (below (tasks_in ps) k)
unfolding below
rising_below ps zero = tt
rising_below ps (suc k) = by_any_place (get_or ps k None) (rising_below ps k) where
  by_any_place : (o : Option Row) → Rising (below (tasks_in ps) k) → Rising (below (tasks_in ps) k ++ option_to_list (option_map (task_of k) o))
  by_any_place None r = subst Rising (sym (append-nil (below (tasks_in ps) k))) r
  by_any_place (Some row) r = rising_push (below (tasks_in ps) k) (task_of k row) r (low_below ps k)

-- the row under a number is that of its place
under_here : (n : ℕ) (o : Option Row) → under n (option_to_list (option_map (task_of n) o)) ≡ option_to_list o
under_here n None = refl
under_here n (Some r) = under_own n (task_of n r) [] refl

under_there : (n k : ℕ) (o : Option Row) → (k ≡ n → ⊥) → under n (option_to_list (option_map (task_of k) o)) ≡ []
under_there n k None q = refl
under_there n k (Some r) q = under_other n (task_of k r) [] q

none_yet : (ps : List (Option Row)) (n k : ℕ) → k ≤ n → under n (below (tasks_in ps) k) ≡ []
unfolding below
none_yet ps n zero l = refl
none_yet ps n (suc k) l =
    under_append n (below (tasks_in ps) k) (option_to_list (tasks_in ps k)) ∙ ap (λ rs. rs ++ under n (option_to_list (tasks_in ps k))) (none_yet ps n k (omega arith)) ∙ under_there n k (get_or ps k None) (λ q. omega arith)

holds_below : (ps : List (Option Row)) (n k : ℕ) → n < k → under n (below (tasks_in ps) k) ≡ option_to_list (get_or ps n None)
unfolding below
holds_below ps n zero l = absurd (omega arith)
holds_below ps n (suc k) l =
    under_append n (below (tasks_in ps) k) (option_to_list (tasks_in ps k)) ∙ elim (cases_lt n k) [
      | inl m ↦ ap (λ rs. rs ++ under n (option_to_list (tasks_in ps k))) (holds_below ps n k m) ∙ ap (λ rs. option_to_list (get_or ps n None) ++ rs) (under_there n k (get_or ps k None) (λ q. omega arith)) ∙ append-nil (option_to_list (get_or ps n None))
      | inr m ↦ ap (λ rs. rs ++ under n (option_to_list (tasks_in ps k))) (none_yet ps n k m) ∙ here (omega arith)
    ] where
      here : k ≡ n → under n (option_to_list (tasks_in ps k)) ≡ option_to_list (get_or ps n None)
      here q = ap (λ i. under n (option_to_list (tasks_in ps i))) q ∙ under_here n (get_or ps n None)

pub holds_entries : (t : Table) → Holds (entries (tasks_in t.places)) t.places
holds_entries t n = elim (cases_lt n 32) [
  | inl l ↦ holds_below t.places n 32 l
  | inr l ↦ none_yet t.places n 32 l ∙ sym (ap option_to_list (get_or_past t.places n None (omega (arith, t.full))))
]

-- ---- the numbers of an order

below_nth : (xs : List ℕ) (k : ℕ) → below (slice_get xs) k ≡ take k xs
unfolding below
below_nth xs zero = refl
below_nth xs (suc k) = ap (λ ys. ys ++ option_to_list (slice_get xs k)) (below_nth xs k) ∙ more xs k where
  more : (ys : List ℕ) (i : ℕ) → take i ys ++ option_to_list (slice_get ys i) ≡ take (suc i) ys
  more [] zero = refl
  more [] (suc i) = refl
  more (y ∷ ys) zero = refl
  more (y ∷ ys) (suc i) = ap (λ zs. y ∷ zs) (more ys i)

pub order_entries : (xs : List ℕ) (t : Table) → Lists xs t.places → entries (slice_get xs) ≡ xs
order_entries xs t s = below_nth xs 32 ∙ take_all 32 xs (few xs t.places t.full s)

-- ---- the file

-- the file that is put together is the canonical one
pub canonical : (t : Table) (order : List ℕ) → Lists order t.places → Canonical (assembled t order) t order
unfolding assembled
canonical t order s =
    let same = ap (section_bytes number_bytes) (order_entries order t s) ∙ ap (λ xs. length order ∷ xs) (joined_each order) in
    record {
      layout = record { entries = entries (tasks_in t.places); holds = holds_entries t; named = inr s; file = ap (λ xs. edition ∷ (section_bytes task_bytes (entries (tasks_in t.places)) ++ xs)) same };
      rising = rising_below t.places 32;
      named = s;
    }

pub length_assembled : (t : Table) (order : List ℕ) → length (assembled t order) ≡ 1 + (1 + task_width * length (entries (tasks_in t.places))) + (1 + 1 * length (entries (slice_get order)))
unfolding assembled
length_assembled t order =
    let tasks = entries (tasks_in t.places) in
    let numbers = entries (slice_get order) in
    omega (arith, length-append (flat_map task_bytes tasks) (section_bytes number_bytes numbers), length_joined task_bytes task_width (λ e. refl) tasks, length_joined number_bytes 1 (λ n. refl) numbers)

-- the same of sections that hold the table and the order
pub length_sections : {t u : Table} {o : Option Order} {order : Order} → t ≡ u → o ≡ Some order
    → length (assembled u order) ≡ 1 + (1 + task_width * length (entries (tasks_in t.places))) + (1 + 1 * length (entries (numbers_in o)))
length_sections e f = rw (e, f) (length_assembled _ _)

-- whatever the canonical file is, it is the one that was written
pub written_one : (t : Table) (order before after : List ℕ) (r : Result ℕ SpaceFault) → Lists order t.places → Written (assembled t order) before after r → (file : List ℕ) → Canonical file t order → Written file before after r
written_one t order before after r s w file c = subst (λ bytes. Written bytes before after r) (canonical_one (assembled t order) file t order (canonical t order s) c) w

-- the bytes written hold the table and the order, and no others
pub holds_just : (t : Table) (order before after : List ℕ) (n : ℕ) → Lists order t.places → Written (assembled t order) before after (Ok n) → HoldsJust (take n after) t order
holds_just t order before after n s w =
    let layout = subst (λ bytes. Layout bytes t order) (sym (front_of (assembled t order) before after n w)) (canonical t order s).layout in
    (layout, λ u other l. layout_one (take n after) u t other order l layout)
