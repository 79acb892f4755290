-- What the searches tell, as the yes or no of a test. Assumes nothing.
use Rattle.std.proofs.Common.{◌≡◌, ℕ, ◌+◌, ◌≤◌, Bool, true, false, ◌&&◌, leb, List, is_some, Some, None, Option, sym, ap, ◌∙◌, arith, MatchOption}
use Rattle.std.proofs.lemmas.Bool.{leb-true, le-leb}
use Rattle.std.proofs.lemmas.Option.{MatchOption-at_some}
use Rattle.std.specs.Option.{option_map}
use Rattle.tasks.specs.declared.row.Row.{Row}
use Rattle.tasks.specs.declared.table.Table.{Table}
use Rattle.demand.specs.Demand.{demand, search_end, IsResponse, IsLeast, Covers}
use Rattle.demand.specs.Present.{some_up_to, present}
use Rattle.demand.specs.declared.mode.Mode.{Mode}
use Rattle.demand.specs.declared.mode.Mode.TheVariants.{Normal}
use Rattle.demand.proofs.Present.{some_at, response_present, least_present}
use Rattle.schedulability.specs.Laws.{Meaning}
use Rattle.schedulability.specs.Proper.{proper, guarded}
use Rattle.tests.specs.Rules.{of_task, blocking}

pub response_says : (m : Mode) (ps : List (Option Row)) (h : ℕ) (o : Option Row) (x : Option ℕ) → MatchOption o (x ≡ None) (λ r. IsResponse m ps r h x) → is_some x ≡ of_task o (λ r. present m ps r h)
response_says m ps h (Some r) x e = response_present m ps r h x e
response_says m ps h None x e = ap is_some e

pub covering_says : (ps : List (Option Row)) (r : Row) (k h fixed : ℕ) (x : Option ℕ) → fixed ≡ r.normal + blocking ps k h → IsLeast (Covers Normal ps h fixed) r.deadline x
    → is_some x ≡ some_up_to (λ n. leb (demand Normal ps r h n + blocking ps k h) n) (search_end r)
covering_says ps r k h fixed x e l =
    least_present (Covers Normal ps h fixed) (λ n. leb (demand Normal ps r h n + blocking ps k h) n) (λ n. (λ y. omega (arith, leb-true _ _ y), λ c. le-leb _ _ (omega arith))) r.deadline x l

-- a proper question is answered by the rule
pub after_proper : (rule : Meaning) (t : Table) (k h : ℕ) (b : Bool) → true ≡ proper t k h → b ≡ rule t k h → b ≡ guarded rule t k h
after_proper rule t k h b p e = e ∙ ap (λ x. x && rule t k h) p

-- the deadline serves
pub deadline_says : {P : ℕ → Type 0} (m : Mode) (ps : List (Option Row)) (h : ℕ) (o : Option Row) (r : Row) (asked : Option ℕ) (b : Bool) → Some r ≡ o → asked ≡ option_map (λ row. demand m ps row h r.deadline) o → 1 ≤ r.deadline → MatchOption asked (b ≡ false) P → ((n : ℕ) → P n → b ≡ leb n r.deadline) → b ≡ true
    → b ≡ of_task o (λ row. present m ps row h)
deadline_says {P} m ps h (Some row) r asked b e d l s f y =
    let same : r ≡ row = cc in
    let due : row.deadline ≡ r.deadline = ap (λ x. x.deadline) (sym same) in
    let met = f (demand m ps row h r.deadline) (MatchOption-at_some (b ≡ false) P (demand m ps row h r.deadline) d s) in
    y ∙ sym (some_at (λ t. leb (demand m ps row h t) t) (search_end row) r.deadline l (omega arith) (sym met ∙ y))
deadline_says m ps h None r asked b e d l s f y = absurd (grind arith)
