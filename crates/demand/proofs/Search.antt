-- Where a search for the least time that covers may begin, and how far each step may go. Assumes nothing.
use Rattle.std.proofs.Common.{◌≡◌, ℕ, ◌+◌, ◌-◌, ◌*◌, ◌/◌, ◌<◌, ◌≤◌, List, Some, None, Option, refl, ap, inl, inr, mul-le-mul_right, mul_assoc, mul_comm, mul-le-mul_left, mul-suc, mul-add, div-mul-le_self, arith}
use Rattle.demand.proofs.Bounds.{LawfulAt}
use Rattle.demand.proofs.Monotone.{interference_mono}
use Rattle.demand.proofs.Rounding.{ceil_cover, ceil_least}
use Rattle.demand.specs.Demand.{ceil_div, releases, cost, share, rate, interference, Covers}
use Rattle.demand.specs.declared.mode.Mode.{Mode}
use Rattle.std.proofs.lemmas.Bool.{cases_lt}
use Rattle.tasks.specs.Sets.{members}
use Rattle.tasks.specs.declared.row.Row.{Row}

-- t ticks hold at least t times the rate, rounded down, of what is asked for once in every p ticks
pub rate_le : (c p t : ℕ) → 1 ≤ p → t * (c * 1000000 / p) ≤ c * releases p t * 1000000
rate_le c p t h =
    let q = c * 1000000 / p in
    let n = releases p t in
    let a = mul-le-mul_right q (ceil_cover p t h) in
    let b = mul-le-mul_left n (div-mul-le_self (c * 1000000) p) in
    omega (arith, mul_assoc n p q, mul_comm p q, mul_assoc n c 1000000, mul_comm n c)

pub rate_share : (m : Mode) (t : ℕ) (o : Option Row) → LawfulAt o → t * rate m o ≤ share m t o * 1000000
rate_share m t (Some r) b = let l = b r refl in rate_le (cost m r) r.period t (omega arith)
rate_share m t None b = omega arith

-- no time covers more than the whole processor
pub full : (c u i t : ℕ) → t * u ≤ i * 1000000 → 1000000 ≤ u → 1000000 < u + c → 1 ≤ t → c + i ≤ t → ⊥
full c u i t l f g p v = elim (cases_lt 1000000 u) [ inl q ↦ omega (arith, mul-le-mul_left t q, mul-suc t 1000000) | inr q ↦ omega (arith, mul-le-mul_left t f) ]

-- no time covers a fixed part before what the tasks leave of the processor does
pub too_early : (c u i t : ℕ) → t * u ≤ i * 1000000 → u < 1000000 → t < ceil_div (c * 1000000) (1000000 - u) → c + i ≤ t → ⊥
too_early c u i t l f b v =
    let w : u + (1000000 - u) ≡ 1000000 = omega arith in
    let e = ap (λ x. t * x) w in
    let n = ceil_least (1000000 - u) (c * 1000000) t (omega arith) (omega (arith, mul-add t u (1000000 - u))) in
    omega arith

-- what is asked at t is no more than at any later time, so nothing before it covers
pub skip : (m : Mode) (ps : List (Option Row)) (h c t : ℕ) → ((s : ℕ) → 1 ≤ s → s < t → Covers m ps h c s → ⊥) → (s : ℕ) → 1 ≤ s → s < c + interference m ps (members h) t → Covers m ps h c s → ⊥
skip m ps h c t below s p l v = elim (cases_lt s t) [ inl q ↦ below s p q v | inr q ↦ omega (arith, interference_mono m ps (members h) t s q) ]
