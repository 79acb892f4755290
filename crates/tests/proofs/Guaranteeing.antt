-- The guarantee as a yes or no is the guarantee in words. Assumes nothing.
use Rattle.std.proofs.Common.{◌≡◌, ℕ, Bool, true, ◌&&◌, get_or, Some, None, Option, sym, refl, subst, arith}
use borrow.Author.Tests.{clash}
use Rattle.std.proofs.lemmas.Bool.{and_parts, and_from}
use Rattle.tasks.specs.declared.kind.Kind.{Kind}
use Rattle.tasks.specs.declared.kind.Kind.TheVariants.{Tolerable, Strict}
use Rattle.tasks.specs.declared.row.Row.{Row}
use Rattle.tasks.specs.declared.table.Table.{Table}
use Rattle.demand.specs.Present.{present}
use Rattle.demand.specs.declared.mode.Mode.TheVariants.{Normal, Abnormal}
use Rattle.schedulability.specs.Layers.{by_kind, by_place}
use Rattle.schedulability.specs.Proper.{proper, guarded}
use Rattle.schedulability.specs.Guards.{proper_means, proper_from}
use Rattle.tests.specs.Guarantee.{guaranteed, Guaranteed}
use Rattle.tests.specs.Words.{Served}
use Rattle.tests.proofs.Wording.{served, serving}
use Rattle.tests.specs.Rules.{of_task, responds}

strictly_so : (k : Kind) (b : Bool) → by_kind k b ≡ true → k ≡ Strict → b ≡ true
strictly_so Tolerable b y e = absurd (grind arith)
strictly_so Strict b y e = y

so_strictly : (k : Kind) (b : Bool) → (k ≡ Strict → b ≡ true) → by_kind k b ≡ true
so_strictly Tolerable b h = refl
so_strictly Strict b h = h refl

module _ (t : Table) (k h : ℕ) where
  from_place : (o : Option Row) → get_or t.places k None ≡ o → (b : Bool) → of_task o (λ r. present Normal t.places r h) ≡ true → by_place o (b && of_task o (λ r. present Abnormal t.places r h)) ≡ true
      → (r : Row) × (get_or t.places k None ≡ Some r) × Served Normal t r h × (r.kind ≡ Strict → Served Abnormal t r h)
  from_place (Some r) e b n s = (r, e, served Normal t r h n, λ q. served Abnormal t r h (and_parts b _ (strictly_so r.kind _ s q)).1)
  from_place None e b n s = absurd (clash n)

  pub guaranteed_means : guaranteed t k h ≡ true → Guaranteed t k h
  guaranteed_means y =
      let p = and_parts (proper t k h) _ y in
      let q = and_parts (guarded (responds Normal) t k h) _ p.1 in
      let n = and_parts (proper t k h) _ q.0 in
      let s = and_parts (proper t k h) _ q.1 in
      (proper_means t k h p.0, from_place (get_or t.places k None) refl (proper t k h) n.1 s.1)

  pub guaranteed_from : Guaranteed t k h → guaranteed t k h ≡ true
  guaranteed_from (p, (r, e, n, a)) =
      let y = proper_from t k h p in
      let normal : responds Normal t k h ≡ true = subst (λ o. of_task o (λ s. present Normal t.places s h) ≡ true) (sym e) (serving Normal t r h n) in
      let abnormal : by_place (get_or t.places k None) (proper t k h && responds Abnormal t k h) ≡ true =
      subst (λ o. by_place o (proper t k h && of_task o (λ s. present Abnormal t.places s h)) ≡ true) (sym e) (so_strictly r.kind _ (λ q. and_from _ _ y (serving Abnormal t r h (a q)))) in
      and_from _ _ y (and_from _ _ (and_from _ _ y normal) (and_from _ _ y abnormal))
