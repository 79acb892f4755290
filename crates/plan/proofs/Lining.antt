-- The lines of an order, one more with each task. Assumes nothing.
use Rattle.std.proofs.Common.{◌≡◌, ℕ, suc, ◌+◌, ◌<◌, ◌≤◌, Bool, true, false, List, [], ◌∷◌, ◌++◌, length, get_or, take, Some, None, Option, MatchBool, MatchOption, sym, refl, ap, subst, append_assoc, arith}
use Rattle.std.proofs.lemmas.List.{append-nil, take_more, length-take-le}
use Rattle.tasks.specs.Orders.{Lists}
use Rattle.tasks.specs.declared.row.Row.{Row}
use Rattle.tasks.specs.declared.table.Table.{Table}
use Rattle.tasks.proofs.Few.{few}
use Rattle.demand.specs.Demand.{IsResponse}
use Rattle.demand.specs.declared.mode.Mode.TheVariants.{Normal, Abnormal}
use Rattle.priority.specs.Passing.{named}
use Rattle.listing.specs.declared.line.Line.{Line}
use Rattle.plan.specs.Answers.{IsLine, LinesBelow, LinesOf}

lines_more : (t : Table) (above ks : List ℕ) (ls : List Line) (k : ℕ) (l : Line) → LinesBelow t above ks ls → IsLine t (above ++ ks) k l → LinesBelow t above (ks ++ k ∷ []) (ls ++ l ∷ [])
lines_more t above [] [] k l h i = (subst (λ xs. IsLine t xs k l) (append-nil above) i, tt)
lines_more t above (j ∷ ks) (m ∷ ls) k l h i = (h.0, lines_more t (above ++ j ∷ []) ks ls k l h.1 (subst (λ xs. IsLine t xs k l) (sym (append_assoc above (j ∷ []) ks)) i))
lines_more t above [] (m ∷ ls) k l h i = absurd h
lines_more t above (j ∷ ks) [] k l h i = absurd h

lines_many : (t : Table) (above ks : List ℕ) (ls : List Line) → LinesBelow t above ks ls → length ls ≡ length ks
lines_many t above [] [] h = refl
lines_many t above (k ∷ ks) (l ∷ ls) h = ap suc (lines_many t (above ++ k ∷ []) ks ls h.1)
lines_many t above [] (l ∷ ls) h = absurd h
lines_many t above (k ∷ ks) [] h = absurd h

pushed : {A B : Type 0} (b : Bool) → MatchBool b A B → (B → ⊥) → A
pushed true h n = h
pushed false h n = absurd (n h)

-- the line of the next task is put after those before it
pub lines_next : (t : Table) (o : List ℕ) (i h : ℕ) (row : Row) (normal abnormal : Option ℕ) (ls after : List Line) (room : Bool) → i < length o → Lists o t.places → h ≡ named (take i o)
    → get_or t.places (get_or o i 0) None ≡ Some row
    → MatchOption (get_or t.places (get_or o i 0) None) (normal ≡ None) (λ r. IsResponse Normal t.places r h normal)
    → MatchOption (get_or t.places (get_or o i 0) None) (abnormal ≡ None) (λ r. IsResponse Abnormal t.places r h abnormal)
    → LinesOf t (take i o) ls
    → MatchBool room ((length ls < 32) × (after ≡ ls ++ record { place = i + 1; number = get_or o i 0; kind = row.kind; normal = normal; abnormal = abnormal } ∷ [])) ((32 ≤ length ls) × (after ≡ ls))
    → LinesOf t (take (i + 1) o) after
lines_next t o i h row normal abnormal ls after room l s e at n a before q =
    let k = get_or o i 0 in
    let long = length-take-le i o (omega arith) in
    let fits = few o t.places t.full s in
    let put = pushed room q (λ f. omega (arith, lines_many t [] (take i o) ls before)) in
    let line : IsLine t (take i o) k (record { place = i + 1; number = k; kind = row.kind; normal = normal; abnormal = abnormal }) =
    record {
      place = ap (λ m. m + 1) (sym long);
      number = refl;
      row = row;
      at = at;
      kind = refl;
      normal = subst (λ x. IsResponse Normal t.places row x normal) e (rw at at n);
      abnormal = subst (λ x. IsResponse Abnormal t.places row x abnormal) e (rw at at a);
    } in
    rw (put.1, take_more o i 0 l) (lines_more t [] (take i o) ls k _ before line)
