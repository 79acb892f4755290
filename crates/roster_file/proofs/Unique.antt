-- Every byte string has one outcome at most: one layout, or one refusal. Assumes nothing.
use Rattle.std.proofs.Common.{◌≡◌, ℕ, ◌+◌, ◌<◌, ◌≤◌, Bool, true, false, cond, eqb, ◌⊎◌, List, [], ◌∷◌, ◌++◌, map, length, get_or, take, drop, is_ok, IfErr, Some, None, Ok, Err, Option, Result, sym, refl, ap, ◌∙◌, subst, inl, inr, le_refl, arith, length-append, MatchResult}
use mathlib.Core.Path.{subst₃}
use lib.ListN.{length-map}
use Rattle.std.proofs.lemmas.List.{append-nil, take_at, drop_at}
use Rattle.std.specs.List.{flat_map}
use Rattle.std.specs.Option.{option_to_list}
use Rattle.tasks.proofs.Few.{few_among}
use Rattle.tasks.specs.Bounds.{Lawful, RecordRefused}
use Rattle.tasks.specs.Orders.{in_use, occurs}
use Rattle.tasks.specs.Tables.{EntryRefused}
use Rattle.tasks.specs.declared.kind.Kind.{Kind}
use Rattle.tasks.specs.declared.kind.Kind.TheVariants.{Tolerable, Strict}
use Rattle.tasks.specs.declared.order.Order.{Order}
use Rattle.tasks.specs.declared.row.Row.{Row}
use Rattle.tasks.specs.declared.table.Table.{Table}
use Rattle.tasks.specs.declared.fault.RecordFault.{RecordFault}
use Rattle.tasks.specs.declared.fault.RecordFault.TheVariants as refused
use Rattle.tasks.specs.declared.fault.EntryFault.{EntryFault}
use Rattle.tasks.specs.declared.fault.EntryFault.TheVariants.{Invalid, Taken}
use Rattle.tasks.specs.Kinds.{kind_byte}
use Rattle.roster_file.specs.Entries.{task_bytes, task_width, TaskFits, Holds, under}
use Rattle.roster_file.specs.Layout.{edition, offset, Named, Layout, Begun, Refused}
use Rattle.roster_file.specs.declared.task_section.TaskEntry.{TaskEntry}
use Rattle.roster_file.specs.declared.fault.FileFault.{FileFault}
use Rattle.roster_file.specs.declared.fault.FileFault.TheVariants as fault
use Rattle.roster_file.proofs.Alike.{task_same, compared, GoesOn, Compared}
use Rattle.roster_file.proofs.Holding.{one_or_none}
use Rattle.roster_file.proofs.Filled.{same_filled, stands, lawful, fits, filled_fit}

-- what comes of a file: a table and an order, or a fault
abbrev pub Outcome : Type 0
Outcome = Result (Table × List ℕ) FileFault

-- the first question that a record fails is one
record_one : (n : ℕ) (r : Row) (f g : RecordFault) → RecordRefused n r f → RecordRefused n r g → f ≡ g
record_one n r (refused.Number p) (refused.Number q) a b = ap refused.Number (a.0 ∙ sym b.0)
record_one n r (refused.Number p) (refused.Times q) a b = absurd (a.1 b.1)
record_one n r (refused.Number p) (refused.Window q) a b = absurd (a.1 b.1)
record_one n r (refused.Number p) (refused.Section q) a b = absurd (a.1 b.1)
record_one n r (refused.Times p) (refused.Number q) a b = absurd (b.1 a.1)
record_one n r (refused.Times p) (refused.Times q) a b = ap refused.Times (a.0 ∙ sym b.0)
record_one n r (refused.Times p) (refused.Window q) a b = absurd (a.2 b.2)
record_one n r (refused.Times p) (refused.Section q) a b = absurd (a.2 b.2)
record_one n r (refused.Window p) (refused.Number q) a b = absurd (b.1 a.1)
record_one n r (refused.Window p) (refused.Times q) a b = absurd (b.2 a.2)
record_one n r (refused.Window p) (refused.Window q) a b = ap refused.Window (a.0 ∙ sym b.0)
record_one n r (refused.Window p) (refused.Section q) a b = absurd (a.3 b.3)
record_one n r (refused.Section p) (refused.Number q) a b = absurd (b.1 a.1)
record_one n r (refused.Section p) (refused.Times q) a b = absurd (b.2 a.2)
record_one n r (refused.Section p) (refused.Window q) a b = absurd (b.3 a.3)
record_one n r (refused.Section p) (refused.Section q) a b = ap refused.Section (a.0 ∙ sym b.0)

-- a lawful record is not refused for itself
record_lawful : (n : ℕ) (r : Row) (f : RecordFault) → Lawful n r → RecordRefused n r f → ⊥
record_lawful n r (refused.Number p) l a = a.1 l.0
record_lawful n r (refused.Times p) l a = a.2 l.1.0
record_lawful n r (refused.Window p) l a = a.3 l.1.1
record_lawful n r (refused.Section p) l a = a.4 l.1.2

entry_one : (ps : List (Option Row)) (n : ℕ) (r : Row) (f g : EntryFault) → EntryRefused ps n r f → EntryRefused ps n r g → f ≡ g
entry_one ps n r (Invalid f) (Invalid g) a b = ap Invalid (record_one n r f g a b)
entry_one ps n r (Invalid f) (Taken q) a b = absurd (record_lawful n r f b.1 a)
entry_one ps n r (Taken p) (Invalid g) a b = absurd (record_lawful n r g a.1 b)
entry_one ps n r (Taken p) (Taken q) a b = ap Taken (a.0 ∙ sym b.0)

-- after some records the next one fails
abbrev Next : List TaskEntry → Table → List ℕ → ℕ → Outcome → Type 0
Next es t rest end o =
    ((length rest < task_width) × (o ≡ Err (fault.Cut end)))
    ⊎ (((task_width ≤ length rest) × (2 ≤ get_or rest 1 0) × (o ≡ Err (fault.Kind (offset (length es) + 1))))
    ⊎ ((e : TaskEntry) × (after : List ℕ) × (g : EntryFault) × (rest ≡ task_bytes e ++ after) × TaskFits e × EntryRefused t.places e.number e.row g × (o ≡ Err (fault.Entry (record { offset = offset (length es); fault = g })))))

-- after all records: the order and the end
abbrev Numbers : ℕ → Table → List ℕ → Outcome → Type 0
Numbers count t after o =
    (order : List ℕ) × (tail : List ℕ) × (after ≡ length order ∷ (order ++ tail))
    × (((Named order t → ⊥) × (o ≡ Err (fault.Order (offset count))))
    ⊎ (Named order t × (((tail ≡ []) × (o ≡ Ok (t, order))) ⊎ ((b : ℕ) × (more : List ℕ) × (tail ≡ b ∷ more) × (o ≡ Err (fault.Trailing (offset count + 1 + length order)))))))

abbrev Tail : ℕ → Table → List ℕ → ℕ → Outcome → Type 0
Tail count t rest end o = ((rest ≡ []) × (o ≡ Err (fault.Cut end))) ⊎ (((m : ℕ) × (after : List ℕ) × (rest ≡ m ∷ after) × (length after < m) × (o ≡ Err (fault.Cut end))) ⊎ Numbers count t rest o)

abbrev Stage : List ℕ → ℕ → List TaskEntry → Table → List ℕ → Outcome → Type 0
Stage bytes count es t rest o = ((length es < count) × Next es t rest (length bytes) o) ⊎ ((length es ≡ count) × Tail count t rest (length bytes) o)

-- an outcome, by how far the file is lawful
abbrev View : List ℕ → Outcome → Type 0
View bytes o =
    (((rest : List ℕ) → bytes ≡ edition ∷ rest → ⊥) × (o ≡ Err fault.Edition))
    ⊎ (((bytes ≡ edition ∷ []) × (o ≡ Err (fault.Cut (length bytes))))
    ⊎ (((count : ℕ) × (rest : List ℕ) × (bytes ≡ edition ∷ count ∷ rest) × (32 < count) × (o ≡ Err fault.Count))
    ⊎ ((count : ℕ) × (es : List TaskEntry) × (t : Table) × (rest : List ℕ) × Begun bytes count es t rest × Stage bytes count es t rest o)))

same_tail : (xs ys as' bs : List ℕ) → length xs ≡ length ys → xs ++ as' ≡ ys ++ bs → (xs ≡ ys) × (as' ≡ bs)
same_tail xs ys as' bs l e =
    let p : xs ≡ ys = sym (take_at xs as' _ refl) ∙ ap (take (length xs)) e ∙ take_at ys bs _ (sym l) in
    (p, sym (drop_at xs as' _ refl) ∙ ap (drop (length xs)) e ∙ drop_at ys bs _ (sym l))

named_same : (p q : List ℕ) (t : Table) → p ≡ q → Named p t → Named q t
named_same p q t e n = subst (λ x. Named x t) e n

numbers_one : (count : ℕ) (t : Table) (rest : List ℕ) (o p : Outcome) → Numbers count t rest o → Numbers count t rest p → o ≡ p
numbers_one count t rest o p (a, x, ea, va) (b, y, eb, vb) = go va vb where
  long : length a ≡ length b
  long = let e = sym ea ∙ eb in let q : length a ≡ length b = cc in q

  rests : a ++ x ≡ b ++ y
  rests = let e = sym ea ∙ eb in let q : a ++ x ≡ b ++ y = cc in q

  same : (a ≡ b) × (x ≡ y)
  same = same_tail a b x y long rests

  go : (((Named a t → ⊥) × (o ≡ Err (fault.Order (offset count)))) ⊎ (Named a t × (((x ≡ []) × (o ≡ Ok (t, a))) ⊎ ((c : ℕ) × (more : List ℕ) × (x ≡ c ∷ more) × (o ≡ Err (fault.Trailing (offset count + 1 + length a)))))))
      → (((Named b t → ⊥) × (p ≡ Err (fault.Order (offset count)))) ⊎ (Named b t × (((y ≡ []) × (p ≡ Ok (t, b))) ⊎ ((c : ℕ) × (more : List ℕ) × (y ≡ c ∷ more) × (p ≡ Err (fault.Trailing (offset count + 1 + length b)))))))
      → o ≡ p
  go (inl (n, e)) (inl (m, f)) = e ∙ sym f
  go (inl (n, e)) (inr (m, f)) = absurd (n (named_same b a t (sym same.0) m))
  go (inr (n, e)) (inl (m, f)) = absurd (m (named_same a b t same.0 n))
  go (inr (n, inl (u, e))) (inr (m, inl (v, f))) = e ∙ ap (λ z. Ok (t, z)) same.0 ∙ sym f
  go (inr (n, inl (u, e))) (inr (m, inr (c, more, v, f))) = absurd (let z = sym u ∙ same.1 ∙ v in grind arith)
  go (inr (n, inr (c, more, u, e))) (inr (m, inl (v, f))) = absurd (let z = sym u ∙ same.1 ∙ v in grind arith)
  go (inr (n, inr (c, more, u, e))) (inr (m, inr (d, most, v, f))) = e ∙ ap (λ z. Err (fault.Trailing (offset count + 1 + z))) long ∙ sym f

numbers_whole : (count : ℕ) (t : Table) (rest after : List ℕ) (m : ℕ) (o : Outcome) → rest ≡ m ∷ after → length after < m → Numbers count t rest o → ⊥
numbers_whole count t rest after m o e l (order, tail, q, v) =
    let z = sym e ∙ q in
    let a : m ≡ length order = cc in
    let b : after ≡ order ++ tail = cc in
    omega (arith, ap length b, length-append order tail)

tail_one : (count : ℕ) (t : Table) (rest : List ℕ) (end : ℕ) (o p : Outcome) → Tail count t rest end o → Tail count t rest end p → o ≡ p
tail_one count t rest end o p (inl (a, e)) (inl (b, f)) = e ∙ sym f
tail_one count t rest end o p (inl (a, e)) (inr (inl (m, after, b, l, f))) = e ∙ sym f
tail_one count t rest end o p (inl (a, e)) (inr (inr (order, tail, q, v))) = absurd (let z = sym a ∙ q in grind arith)
tail_one count t rest end o p (inr (inl (m, after, b, l, e))) (inl (a, f)) = e ∙ sym f
tail_one count t rest end o p (inr (inl (m, after, b, l, e))) (inr (inl (n, more, a, k, f))) = e ∙ sym f
tail_one count t rest end o p (inr (inl (m, after, b, l, e))) (inr (inr n)) = absurd (numbers_whole count t rest after m p b l n)
tail_one count t rest end o p (inr (inr (order, tail, q, v))) (inl (a, f)) = absurd (let z = sym a ∙ q in grind arith)
tail_one count t rest end o p (inr (inr n)) (inr (inl (m, after, b, l, f))) = absurd (numbers_whole count t rest after m o b l n)
tail_one count t rest end o p (inr (inr n)) (inr (inr k)) = numbers_one count t rest o p n k

-- the kind byte of an entry is 0 or 1
kind_as_byte : (k : Kind) → kind_byte k ≤ 1
kind_as_byte Tolerable = omega arith
kind_as_byte Strict = omega arith

kind_low : (e : TaskEntry) (after rest : List ℕ) → rest ≡ task_bytes e ++ after → 2 ≤ get_or rest 1 0 → ⊥
kind_low e after rest q k = omega (arith, ap (λ xs. get_or xs 1 0) q, kind_as_byte e.row.kind)

whole : (e : TaskEntry) (after rest : List ℕ) → rest ≡ task_bytes e ++ after → task_width ≤ length rest
whole e after rest q = omega (arith, ap length q)

next_one : (es : List TaskEntry) (t : Table) (rest : List ℕ) (end : ℕ) (o p : Outcome) → Next es t rest end o → Next es t rest end p → o ≡ p
next_one es t rest end o p (inl (a, e)) (inl (b, f)) = e ∙ sym f
next_one es t rest end o p (inl (a, e)) (inr (inl (b, k, f))) = absurd (omega arith)
next_one es t rest end o p (inl (a, e)) (inr (inr (x, after, g, q, fit, r, f))) = absurd (omega (arith, whole x after rest q))
next_one es t rest end o p (inr (inl (a, k, e))) (inl (b, f)) = absurd (omega arith)
next_one es t rest end o p (inr (inl (a, k, e))) (inr (inl (b, j, f))) = e ∙ sym f
next_one es t rest end o p (inr (inl (a, k, e))) (inr (inr (x, after, g, q, fit, r, f))) = absurd (kind_low x after rest q k)
next_one es t rest end o p (inr (inr (x, after, g, q, fit, r, e))) (inl (b, f)) = absurd (omega (arith, whole x after rest q))
next_one es t rest end o p (inr (inr (x, after, g, q, fit, r, e))) (inr (inl (b, j, f))) = absurd (kind_low x after rest q j)
next_one es t rest end o p (inr (inr (x, after, g, q, fit, r, e))) (inr (inr (y, more, h, w, fits, s, f))) =
    let same = task_same x y after more fit fits (sym q ∙ w) in
    let one = entry_one t.places x.number x.row g h r (subst (λ z. EntryRefused t.places z.number z.row h) (sym same.0) s) in
    e ∙ ap (λ z. Err (fault.Entry (record { offset = offset (length es); fault = z }))) one ∙ sym f

-- where the next record is lawful and new, it does not fail
next_fine : (es more : List TaskEntry) (e : TaskEntry) (t u : Table) (rest after : List ℕ) (end : ℕ) (o : Outcome) → Holds es t.places → Holds (es ++ (e ∷ more)) u.places → rest ≡ task_bytes e ++ after → Next es t rest end o → ⊥
next_fine es more e t u rest after end o ht hu q (inl (a, f)) = omega (arith, whole e after rest q)
next_fine es more e t u rest after end o ht hu q (inr (inl (a, k, f))) = kind_low e after rest q k
next_fine es more e t u rest after end o ht hu q (inr (inr (x, xs, g, w, fx, r, f))) =
    by_fault g (subst (λ z. EntryRefused t.places z.number z.row g) (task_same x e xs after fx (fits e (lawful u e.number e.row (stands es more e u.places hu).0)) (sym w ∙ q)).0 r) where
      taken : (place : Option Row) → in_use (place ∷ []) 0 ≡ true → option_to_list place ≡ [] → ⊥
      taken None y n = grind arith
      taken (Some s) y n = grind arith

      by_fault : (g : EntryFault) → EntryRefused t.places e.number e.row g → ⊥
      by_fault (Invalid h) a = record_lawful e.number e.row h (lawful u e.number e.row (stands es more e u.places hu).0) a
      by_fault (Taken n) a = taken (get_or t.places e.number None) a.2 (sym (ht e.number) ∙ (stands es more e u.places hu).1)

stage_same : (bytes : List ℕ) (count : ℕ) (es : List TaskEntry) (t : Table) (rest : List ℕ) (o p : Outcome) → Stage bytes count es t rest o → Stage bytes count es t rest p → o ≡ p
stage_same bytes count es t rest o p (inl (l, a)) (inl (k, b)) = next_one es t rest (length bytes) o p a b
stage_same bytes count es t rest o p (inl (l, a)) (inr (k, b)) = absurd (omega arith)
stage_same bytes count es t rest o p (inr (l, a)) (inl (k, b)) = absurd (omega arith)
stage_same bytes count es t rest o p (inr (l, a)) (inr (k, b)) = tail_one count t rest (length bytes) o p a b

-- a file that goes on lawfully does not fail before
goes_on : (bytes : List ℕ) (count : ℕ) (es fs : List TaskEntry) (t u : Table) (rest rest' : List ℕ) (o : Outcome) → Begun bytes count es t rest → Begun bytes count fs u rest' → GoesOn es rest fs → Stage bytes count es t rest o → ⊥
goes_on bytes count es fs t u rest rest' o a b (e, more, after, p, q) (inl (l, n)) =
    let h = subst (λ xs. Holds xs u.places) p b.holds in
    next_fine es more e t u rest after (length bytes) o a.holds h q n
goes_on bytes count es fs t u rest rest' o a b (e, more, after, p, q) (inr (l, n)) = omega (arith, ap length p, length-append es (e ∷ more), b.within)

begun_one : (bytes : List ℕ) (count : ℕ) (es fs : List TaskEntry) (t u : Table) (rest rest' : List ℕ) (o p : Outcome) → Begun bytes count es t rest → Stage bytes count es t rest o → Begun bytes count fs u rest' → Stage bytes count fs u rest' p → Compared es rest fs rest' → o ≡ p
begun_one bytes count es fs t u rest rest' o p a s b r (inl (e, q)) =
    let w = same_filled es fs t u e a.holds b.holds in
    stage_same bytes count es t rest o p s (subst₃ (λ (xs : List TaskEntry) (v : Table) (ys : List ℕ). Stage bytes count xs v ys p) (sym e) (sym w) (sym q) r)
begun_one bytes count es fs t u rest rest' o p a s b r (inr (inl g)) = absurd (goes_on bytes count es fs t u rest rest' o a b g s)
begun_one bytes count es fs t u rest rest' o p a s b r (inr (inr g)) = absurd (goes_on bytes count fs es u t rest' rest p b a g r)

same_start : (bytes : List ℕ) (count n : ℕ) (es fs : List TaskEntry) (t u : Table) (rest rest' : List ℕ) (o p : Outcome) → Begun bytes count es t rest → Stage bytes count es t rest o → Begun bytes n fs u rest' → Stage bytes n fs u rest' p → o ≡ p
same_start bytes count n es fs t u rest rest' o p a s b r =
    let z = sym a.file ∙ b.file in
    let c : n ≡ count = cc in
    let q : flat_map task_bytes es ++ rest ≡ flat_map task_bytes fs ++ rest' = cc in
    begun_one bytes count es fs t u rest rest' o p a s (subst (λ k. Begun bytes k fs u rest') c b) (subst (λ k. Stage bytes k fs u rest' p) c r) (compared es fs rest rest' (filled_fit es t a.holds) (filled_fit fs u b.holds) q)

view_one : (bytes : List ℕ) (o p : Outcome) → View bytes o → View bytes p → o ≡ p
view_one bytes o p (inl (n, e)) (inl (m, f)) = e ∙ sym f
view_one bytes o p (inl (n, e)) (inr (inl (q, f))) = absurd (n _ q)
view_one bytes o p (inl (n, e)) (inr (inr (inl (count, rest, q, l, f)))) = absurd (n _ q)
view_one bytes o p (inl (n, e)) (inr (inr (inr (count, es, t, rest, b, s)))) = absurd (n _ b.file)
view_one bytes o p (inr (inl (q, e))) (inl (m, f)) = absurd (m _ q)
view_one bytes o p (inr (inl (q, e))) (inr (inl (r, f))) = e ∙ sym f
view_one bytes o p (inr (inl (q, e))) (inr (inr (inl (count, rest, r, l, f)))) = absurd (let z = sym q ∙ r in grind arith)
view_one bytes o p (inr (inl (q, e))) (inr (inr (inr (count, es, t, rest, b, s)))) = absurd (let z = sym q ∙ b.file in grind arith)
view_one bytes o p (inr (inr (inl (count, rest, q, l, e)))) (inl (m, f)) = absurd (m _ q)
view_one bytes o p (inr (inr (inl (count, rest, q, l, e)))) (inr (inl (r, f))) = absurd (let z = sym r ∙ q in grind arith)
view_one bytes o p (inr (inr (inl (count, rest, q, l, e)))) (inr (inr (inl (c, r, m, k, f)))) = e ∙ sym f
view_one bytes o p (inr (inr (inl (count, rest, q, l, e)))) (inr (inr (inr (c, es, t, r, b, s)))) = absurd (let z = sym q ∙ b.file in let w : count ≡ c = cc in omega (arith, b.few))
view_one bytes o p (inr (inr (inr (c, es, t, r, b, s)))) (inl (m, f)) = absurd (m _ b.file)
view_one bytes o p (inr (inr (inr (c, es, t, r, b, s)))) (inr (inl (q, f))) = absurd (let z = sym q ∙ b.file in grind arith)
view_one bytes o p (inr (inr (inr (c, es, t, r, b, s)))) (inr (inr (inl (count, rest, q, l, f)))) = absurd (let z = sym q ∙ b.file in let w : count ≡ c = cc in omega (arith, b.few))
view_one bytes o p (inr (inr (inr (c, es, t, r, b, s)))) (inr (inr (inr (d, fs, u, q, a, v)))) = same_start bytes c d es fs t u r q o p b s a v

view_refused : (bytes : List ℕ) (f : FileFault) → Refused bytes f → View bytes (Err f)
view_refused bytes fault.Edition n = inl (n, refl)
view_refused bytes (fault.Cut place) (e, inl q) = inr (inl (q, ap (λ n. Err (fault.Cut n)) e))
view_refused bytes (fault.Cut place) (e, inr (count, es, t, rest, b, inl (l, s))) = inr (inr (inr (count, es, t, rest, b, inl (l, inl (s, ap (λ n. Err (fault.Cut n)) e)))))
view_refused bytes (fault.Cut place) (e, inr (count, es, t, rest, b, inr (l, inl s))) = inr (inr (inr (count, es, t, rest, b, inr (l, inl (s, ap (λ n. Err (fault.Cut n)) e)))))
view_refused bytes (fault.Cut place) (e, inr (count, es, t, rest, b, inr (l, inr (m, after, q, s)))) = inr (inr (inr (count, es, t, rest, b, inr (l, inr (inl (m, after, q, s, ap (λ n. Err (fault.Cut n)) e))))))
view_refused bytes fault.Count (count, rest, q, l) = inr (inr (inl (count, rest, q, l, refl)))
view_refused bytes (fault.Kind place) (count, es, t, rest, b, l, w, k, e) = inr (inr (inr (count, es, t, rest, b, inl (l, inr (inl (w, k, ap (λ n. Err (fault.Kind n)) e))))))
view_refused bytes (fault.Entry located) (count, es, t, e, rest, b, l, fit, at, r) = inr (inr (inr (count, es, t, _, b, inl (l, inr (inr (e, rest, located.fault, refl, fit, r, ap (λ n. Err (fault.Entry (record { offset = n; fault = located.fault }))) at))))))
view_refused bytes (fault.Order place) (count, es, t, order, rest, b, l, at, n) = inr (inr (inr (count, es, t, _, b, inr (l, inr (inr (order, rest, refl, inl (n, ap (λ m. Err (fault.Order m)) at)))))))
view_refused bytes (fault.Trailing place) (count, es, t, order, x, rest, b, l, n, at) = inr (inr (inr (count, es, t, _, b, inr (l, inr (inr (order, (x ∷ rest), refl, inr (n, inr (x, rest, refl, ap (λ m. Err (fault.Trailing m)) at))))))))

numbers_under : (n : ℕ) (es : List TaskEntry) → occurs n (map (λ (e : TaskEntry). e.number) es) ≡ length (under n es)
numbers_under n [] = refl
numbers_under n (e ∷ es) = by_number (eqb e.number n) (numbers_under n es) where
  by_number : (b : Bool) → occurs n (map (λ (x : TaskEntry). x.number) es) ≡ length (under n es) → cond b 1 0 + occurs n (map (λ (x : TaskEntry). x.number) es) ≡ length (cond b (e.row ∷ under n es) (under n es))
  by_number true r = omega arith
  by_number false r = omega arith

-- a table has no more entries than places
pub few_entries : (es : List TaskEntry) (t : Table) → Holds es t.places → length es ≤ 32
few_entries es t h =
    subst (λ n. n ≤ 32) (length-map es (λ (e : TaskEntry). e.number))
    (few_among (map (λ (e : TaskEntry). e.number) es) t.places t.full (λ n. omega (arith, numbers_under n es ∙ ap length (h n) ∙ one_or_none (get_or t.places n None))))

view_layout : (bytes : List ℕ) (t : Table) (order : List ℕ) → Layout bytes t order → View bytes (Ok (t, order))
view_layout bytes t order l =
    inr (inr (inr (
      length l.entries,
      l.entries,
      t,
      _,
      record { few = few_entries l.entries t l.holds; within = le_refl _; holds = l.holds; file = l.file },
      inr (refl, inr (inr (order, [], ap (λ xs. length order ∷ xs) (sym (append-nil order)), inr (l.named, inl (refl, refl))))),
    )))

-- one layout, one refusal, and never both
pub layout_one : (bytes : List ℕ) (t u : Table) (o p : List ℕ) → Layout bytes t o → Layout bytes u p → (t ≡ u) × (o ≡ p)
layout_one bytes t u o p a b =
    let e = view_one bytes (Ok (t, o)) (Ok (u, p)) (view_layout bytes t o a) (view_layout bytes u p b) in
    let q : ◌≡◌ {A = Table × List ℕ} (t, o) (u, p) = cc in
    (ap (λ z. z.0) q, ap (λ z. z.1) q)

pub refusal_one : (bytes : List ℕ) (f g : FileFault) → Refused bytes f → Refused bytes g → f ≡ g
refusal_one bytes f g a b =
    let e = view_one bytes (Err f) (Err g) (view_refused bytes f a) (view_refused bytes g b) in
    let x : f ≡ g = cc in
    x

pub never_both : (bytes : List ℕ) (t : Table) (o : List ℕ) (f : FileFault) → Layout bytes t o → Refused bytes f → ⊥
never_both bytes t o f a b = let e = view_one bytes (Ok (t, o)) (Err f) (view_layout bytes t o a) (view_refused bytes f b) in grind arith

-- what a refusal says, where the table and the order stay as they were
pub record Only (bytes : List ℕ) (t : Table) (order : Order) (r : Result (Unit {0}) FileFault) : Type 0 where
  pub outcome : MatchResult r (λ _. Layout bytes t order) (Refused bytes)
  pub kept : IfErr r (λ _. (t ≡ t) × (order ≡ order))
  pub one_layout : (u : Table) (o : List ℕ) → Layout bytes u o → (is_ok r ≡ true) × (t ≡ u) × (order ≡ o)
  pub one_refusal : (g : FileFault) → Refused bytes g → r ≡ Err g

pub refused_only : (bytes : List ℕ) (t : Table) (order : Order) (r : Result (Unit {0}) FileFault) (f : FileFault) → r ≡ Err f → Refused bytes f → Only bytes t order r
refused_only bytes t order r f e a =
    subst (Only bytes t order) (sym e)
    (record { outcome = a; kept = (refl, refl); one_layout = λ u o l. absurd (never_both bytes u o f l a); one_refusal = λ g b. ap (λ (x : FileFault). Err x) (refusal_one bytes f g a b) })
