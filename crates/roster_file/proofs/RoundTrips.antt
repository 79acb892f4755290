-- What a file becomes that is read and written again, and what is read back of a file that was written. Assumes nothing.
use Rattle.std.proofs.Common.{◌≡◌, ℕ, List, Some, None, Ok, Err, Option, Result, sym, refl, subst, inl, inr}
use Rattle.tasks.specs.Orders.{Lists}
use Rattle.tasks.specs.declared.fault.SpaceFault.{SpaceFault}
use Rattle.tasks.specs.declared.table.Table.{Table}
use Rattle.roster_file.specs.Layout.{Named, Layout, Canonical, Refused}
use Rattle.tasks.specs.Spaces.{Written}
use Rattle.roster_file.specs.Writing.{WrittenAs, Rewritten, Copied}
use Rattle.roster_file.specs.declared.fault.FileFault.{FileFault}
use Rattle.roster_file.specs.declared.fault.RewriteFault.{RewriteFault}
use Rattle.roster_file.specs.declared.fault.RewriteFault.TheVariants.{File, Space}
use Rattle.roster_file.proofs.Unique.{layout_one, never_both}

-- both promises of the call, of an answer
pub record Kept (file before after : List ℕ) (r : Result (Option ℕ) RewriteFault) : Type 0 where
  pub rewritten : Rewritten file before after r
  pub copied : (t : Table) (order : List ℕ) → Canonical file t order → Copied file before after r

-- a refused file
pub file_refused : (file space : List ℕ) (r : Result (Option ℕ) RewriteFault) (f : FileFault) → r ≡ Err (File f) → Refused file f → Kept file space space r
file_refused file space r f e a = subst (Kept file space space) (sym e) (record { rewritten = (a, refl); copied = λ t order c. never_both file t order f c.layout a })

-- a file that leaves out the order of its tasks
pub unordered : (file space : List ℕ) (t : Table) (order : List ℕ) → Layout file t order → (Lists order t.places → ⊥) → Kept file space space (Ok None)
unordered file space t order l n = by_order l.named where
  by_order : Named order t → Kept file space space (Ok None)
  by_order (inl e) = record {
    rewritten = (t, subst (λ xs. Layout file t xs) e l, subst (λ xs. Lists xs t.places → ⊥) e n, refl);
    copied = λ u other c. let same = layout_one file t u order other l c.layout in n (subst (λ xs. Lists xs t.places) (sym same.1) (subst (λ v. Lists other v.places) (sym same.0) c.named));
  }
  by_order (inr s) = absurd (n s)

-- the canonical file of what was read is the file itself, where that is canonical
module _ (file before after : List ℕ) (t : Table) (order : List ℕ) (r : Result ℕ SpaceFault) (l : Layout file t order) (one : (bytes : List ℕ) → Canonical bytes t order → Written bytes before after r) where
  copied_here : (u : Table) (other : List ℕ) → Canonical file u other → Written file before after r
  copied_here u other c =
      let same = layout_one file u t other order c.layout l in
      one file (subst (λ xs. Canonical file t xs) same.1 (subst (λ v. Canonical file v other) same.0 c))

pub written_again : (file before after : List ℕ) (t : Table) (order : List ℕ) (n : ℕ) → Layout file t order → WrittenAs t order before after (Ok n) → ((bytes : List ℕ) → Canonical bytes t order → Written bytes before after (Ok n)) → Kept file before after (Ok (Some n))
written_again file before after t order n l w one = record { rewritten = (t, order, l, w); copied = copied_here file before after t order (Ok n) l one }

pub space_short : (file before after : List ℕ) (t : Table) (order : List ℕ) (r : Result (Option ℕ) RewriteFault) (f : SpaceFault) → r ≡ Err (Space f) → Layout file t order → WrittenAs t order before after (Err f)
    → ((bytes : List ℕ) → Canonical bytes t order → Written bytes before after (Err f)) → Kept file before after r
space_short file before after t order r f e l w one = subst (Kept file before after) (sym e) (record { rewritten = (t, order, l, w); copied = copied_here file before after t order (Err f) l one })
