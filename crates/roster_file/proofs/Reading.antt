-- What the parts of a file say of the whole. Assumes nothing.
use Rattle.std.proofs.Common.{◌≡◌, ℕ, ◌+◌, ◌<◌, ◌≤◌, Bool, true, false, List, [], ◌∷◌, ◌++◌, length, get_or, drop, Some, None, Option, sym, refl, ap, ◌∙◌, subst, inl, inr, le_refl, arith, Decides, MatchOption, MatchResult}
use Rattle.std.proofs.lemmas.List.{nil_from_length, get_or-take, append-nil, drop_more}
use Rattle.std.specs.Bool.{then_some}
use Rattle.std.specs.List.{flat_map}
use Rattle.std.specs.Option.{ok_or}
use Rattle.tasks.specs.declared.order.Order.{Order}
use Rattle.tasks.specs.declared.table.Table.{Table}
use Rattle.tasks.proofs.Few.{few}
use Rattle.roster_file.specs.Entries.{task_bytes, task_width, TaskFits, NoKind, Holds, NotEntered, number_bytes, KeptNumbers}
use Rattle.roster_file.specs.Sections.{Kept, Stopped, NextFails}
use Rattle.roster_file.specs.Layout.{edition, offset, Named, Layout, Begun, Refused}
use Rattle.roster_file.specs.OrderSection.{OrderRead, OrderRefused}
use Rattle.roster_file.specs.declared.task_section.Tasks.{Tasks}
use Rattle.roster_file.specs.declared.order_section.Numbers.{Numbers}
use Rattle.roster_file.specs.declared.fault.FileFault.{FileFault}
use Rattle.roster_file.specs.declared.fault.FileFault.TheVariants as fault

-- the two kinds of section
abbrev pub TasksKept : List ℕ → ℕ → ℕ → Tasks → List ℕ → ℕ → Type 0
TasksKept = Kept task_width task_bytes (λ (s : Tasks) es. Holds es s.table.places)

abbrev pub TasksStopped : List ℕ → ℕ → ℕ → FileFault → Type 0
TasksStopped = Stopped task_width task_bytes TaskFits NoKind (λ (s : Tasks) es. Holds es s.table.places) (λ s. NotEntered s.table.places)

abbrev pub NumbersKept : List ℕ → ℕ → ℕ → Numbers → List ℕ → ℕ → Type 0
NumbersKept = Kept 1 number_bytes (λ (s : Numbers). KeptNumbers s.order)

pub joined_each : (ns : List ℕ) → flat_map number_bytes ns ≡ ns
joined_each [] = refl
joined_each (n ∷ ns) = ap (λ xs. n ∷ xs) (joined_each ns)

module _ (bytes rest : List ℕ) (m at start : ℕ) (t : Table) (s : Numbers) (left : List ℕ) (next : ℕ) (e : bytes ≡ m ∷ rest) (a : start ≡ at + 1) (k : NumbersKept rest start m s left next) where
  order_file : bytes ≡ length k.entries ∷ (k.entries ++ left)
  order_file = e ∙ ap (λ n. n ∷ rest) (sym k.counted) ∙ ap (λ xs. length k.entries ∷ xs) (k.bytes ∙ ap (λ xs. xs ++ left) (joined_each k.entries))

  pub order_unnamed : (Named k.entries t → ⊥) → OrderRefused bytes at t (fault.Order at)
  order_unnamed n = inr ((k.entries, left, order_file, n), refl)

  few_named : Named k.entries t → length k.entries ≤ 32
  few_named (inl z) = omega (arith, ap length z)
  few_named (inr l) = few k.entries t.places t.full l

  -- no order, since there are more numbers than a table has places, or one that is named or not
  pub order_answered : (P : Order → Bool → Type 0) (o r : Option Order) → s.order ≡ o → MatchOption o (r ≡ None) (λ x. (b : Bool) × P x b × (r ≡ then_some b x)) → ((x : Order) (b : Bool) → P x b → Decides b (Named x t))
      → MatchResult (ok_or r (fault.Order at)) (λ x. OrderRead bytes at t x left next) (OrderRefused bytes at t)
  order_answered P None r q e d = rw e (order_unnamed (λ n. omega (arith, few_named n, subst (λ p. KeptNumbers p k.entries) q k.held)))
  order_answered P (Some x) r q (b, p, e) d = rw e (by_name b (d x b p)) where
    same : x ≡ k.entries
    same = subst (λ p. KeptNumbers p k.entries) q k.held

    by_name : (b : Bool) → Decides b (Named x t) → MatchResult (ok_or (then_some b x) (fault.Order at)) (λ y. OrderRead bytes at t y left next) (OrderRefused bytes at t)
    by_name true d = subst (λ xs. OrderRead bytes at t xs left next) (sym same) (record { file = order_file; named = subst (λ xs. Named xs t) same (d.0 refl); forward = omega (arith, k.forward, k.counted) })
    by_name false d = order_unnamed (λ n. let y = d.1 (subst (λ xs. Named xs t) (sym same) n) in grind arith)

-- the records before an offset, as the file has them
module _ (bytes rest : List ℕ) (count : ℕ) (e : bytes ≡ edition ∷ count ∷ rest) (few : count ≤ 32) where
  begun : (read : ℕ) (s : Tasks) (left : List ℕ) (at : ℕ) → read ≤ count → (k : TasksKept rest 2 read s left at) → Begun bytes count k.entries s.table left
  begun read s left at l k = record { few = few; within = omega (arith, k.counted); holds = k.held; file = e ∙ ap (λ xs. edition ∷ count ∷ xs) k.bytes }

  at_offset : (read : ℕ) (s : Tasks) (left : List ℕ) (at : ℕ) (k : TasksKept rest 2 read s left at) → at ≡ offset (length k.entries)
  at_offset read s left at k = omega (arith, k.forward, k.counted)

  at_end : (read : ℕ) (s : Tasks) (left : List ℕ) (at : ℕ) (k : TasksKept rest 2 read s left at) → at + length left ≡ length bytes
  at_end read s left at k = omega (arith, k.end, ap length e)

  -- a record fails
  next_refused : (read : ℕ) (s : Tasks) (left : List ℕ) (at : ℕ) (f : FileFault) → read < count → TasksKept rest 2 read s left at
      → NextFails task_width task_bytes TaskFits NoKind (λ (s : Tasks) es. Holds es s.table.places) (λ s. NotEntered s.table.places) s left at f → Refused bytes f
  next_refused read s left at f l k (inl (w, q)) = subst (Refused bytes) (sym q) (at_end read s left at k, inr (count, k.entries, s.table, left, begun read s left at (omega arith) k, inl (omega (arith, k.counted), w)))
  next_refused read s left at f l k (inr (inl (w, (n, q)))) =
      let here : 2 ≤ get_or left 1 0 = subst (λ b. 2 ≤ b) (get_or-take task_width left 1 0 (omega arith)) n in
      subst (Refused bytes) (sym q) (count, k.entries, s.table, left, begun read s left at (omega arith) k, omega (arith, k.counted), w, here, ap (λ m. m + 1) (at_offset read s left at k))
  next_refused read s left at f l k (inr (inr (x, after, q, fit, (g, p, r)))) =
      let before = subst (λ xs. Begun bytes count k.entries s.table xs) q (begun read s left at (omega arith) k) in
      subst (Refused bytes) (sym p) (count, k.entries, s.table, x, after, before, omega (arith, k.counted), fit, at_offset read s left at k, r)

  pub tasks_refused : (f : FileFault) → TasksStopped rest 2 count f → Refused bytes f
  tasks_refused f s = next_refused s.read s.s s.left s.at f s.fewer s.kept s.fails

  module _ (s : Tasks) (left : List ℕ) (at : ℕ) (k : TasksKept rest 2 count s left at) where
    before : Begun bytes count k.entries s.table left
    before = begun count s left at (le_refl count) k

    -- the order section fails
    pub order_refused : (f : FileFault) → OrderRefused left at s.table f → Refused bytes f
    order_refused f (inl (inl n, q)) = subst (Refused bytes) (sym q) (at_end count s left at k, inr (count, k.entries, s.table, left, before, inr (k.counted, inl n)))
    order_refused f (inl (inr (m, after, p, l), q)) = subst (Refused bytes) (sym q) (at_end count s left at k, inr (count, k.entries, s.table, left, before, inr (k.counted, inr (m, after, p, l))))
    order_refused f (inr ((order, after, p, n), q)) =
        subst (Refused bytes) (sym q) (count, k.entries, s.table, order, after, subst (λ xs. Begun bytes count k.entries s.table xs) p before, k.counted, omega (arith, k.forward), n)

    module _ (order tail : List ℕ) (next : ℕ) (o : OrderRead left at s.table order tail next) where
      -- the file goes on
      pub trailing_refused : 0 < length tail → Refused bytes (fault.Trailing next)
      trailing_refused l =
          let p : tail ≡ get_or tail 0 0 ∷ drop 1 tail = drop_more tail 0 0 l in (
            count,
            k.entries,
            s.table,
            order,
            get_or tail 0 0,
            drop 1 tail,
            subst (λ xs. Begun bytes count k.entries s.table xs) (o.file ∙ ap (λ xs. length order ∷ (order ++ xs)) p) before,
            k.counted,
            o.named,
            omega (arith, o.forward, k.forward),
          )

      -- the file is lawful
      pub whole_file : length tail ≡ 0 → Layout bytes s.table order
      whole_file l = record {
        entries = k.entries;
        holds = k.held;
        named = o.named;
        file = e ∙ ap (λ n. edition ∷ n ∷ rest) (sym k.counted) ∙ ap (λ xs. edition ∷ length k.entries ∷ xs) (k.bytes ∙ ap (λ xs. flat_map task_bytes k.entries ++ xs) (o.file ∙ ap (λ xs. length order ∷ (order ++ xs)) (nil_from_length tail l) ∙ ap (λ xs. length order ∷ xs) (append-nil order)));
      }
