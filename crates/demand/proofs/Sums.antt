-- Sums over the members of a set. Assumes nothing.
use Rattle.std.proofs.Common.{◌≡◌, ℕ, ◌*◌, ◌≤◌, List, [], ◌∷◌, get_or, map, None, Option, refl, ap, mul-le-mul_right, mul-add, sum_by, arith}
use Rattle.std.specs.Fn.{Called}
use Rattle.std.specs.Iterator.{YieldsFirst}
use Rattle.std.specs.Iterator.Adapters.{map_source, map_callee}
use Rattle.std.specs.declared.iter.Map.{Map}
use denote.Param.Members.{Mut}
use Rattle.std.proofs.lemmas.Iterator.{YieldsList, YieldsList-from_map, maps}
use Rattle.std.proofs.lemmas.Iterator.Consumers.{YieldsList-at, YieldsList-from_first}
use Rattle.std.proofs.lemmas.List.Elements.{All-from_get_or}
use Rattle.std.proofs.lemmas.List.Recursion.{is_sum_by}
use Rattle.std.proofs.lemmas.List.Sums.{sum_by-cons, sum_by-le}
use Rattle.demand.proofs.Bounds.{LawfulAt}
use Rattle.demand.proofs.Search.{rate_share}
use Rattle.demand.specs.Demand.{share, rate, interference}
use Rattle.demand.specs.declared.mode.Mode.{Mode}
use Rattle.tasks.proofs.Members.{length_members_le}
use Rattle.tasks.specs.Sets.{members}
use Rattle.tasks.specs.declared.row.Row.{Row}
use Rattle.tasks.specs.declared.set.TaskSet.{TaskSet}
use Rattle.tasks.specs.declared.walk.Members.{Members}

-- a chain over the members whose closure computes h
pub members_map : {F : Type 0} (g : Mut F (ℕ × Unit {0}) ℕ) (h : ℕ → ℕ) (set : TaskSet) {walk : Members} {s : Map Members F} {f : F} → walk.left ≡ set → map_source s ≡ walk → map_callee s ≡ f → ((x r : ℕ) (q : F) → Called g f (x, tt) r q → (q ≡ f) × (r ≡ h x))
    → YieldsList (maps (YieldsFirst (λ w. members w.left.bits)) g) (λ r. r) s (map h (members set.bits))
members_map g h set w e c k = YieldsList-from_map g h (YieldsList-at e (YieldsList-from_first (λ x. x) (λ v. members v.left.bits) (members set.bits) (ap (λ v. members v.bits) w))) c k

-- of a value that is at most so much at each number
pub members_sum_le : (h : ℕ → ℕ) (most bits : ℕ) → ((n : ℕ) → h n ≤ most) → sum_by h (members bits) ≤ 32 * most
members_sum_le h most bits l = omega (arith, sum_by-le h most (members bits) (All-from_get_or (λ x. h x ≤ most) (members bits) 0 (λ i _. l (get_or (members bits) i 0))), mul-le-mul_right most (length_members_le 0 32 bits))

pub interference_sum : (m : Mode) (ps : List (Option Row)) (t : ℕ) (js : List ℕ) → interference m ps js t ≡ sum_by (λ j. share m t (get_or ps j None)) js
interference_sum m ps t = is_sum_by (λ js. interference m ps js t) (λ j. share m t (get_or ps j None)) refl (λ _ _. refl)

-- what the tasks of a list take of the processor at least
pub load_le : (m : Mode) (ps : List (Option Row)) (t : ℕ) (js : List ℕ) → ((n : ℕ) → LawfulAt (get_or ps n None)) → t * sum_by (λ j. rate m (get_or ps j None)) js ≤ interference m ps js t * 1000000
load_le m ps t [] b = omega arith
load_le m ps t (j ∷ js) b =
    let f : ℕ → ℕ = λ i. rate m (get_or ps i None) in
    omega (arith, ap (λ x. t * x) (sum_by-cons f j js), mul-add t (f j) (sum_by f js), rate_share m t (get_or ps j None) (b j), load_le m ps t js b)
