-- What the places of an order hold, and the list of task numbers that they stand for. Assumes nothing.
use Rattle.std.specs.Prelude.{◌≡◌, ℕ, ◌-◌, ◌≤◌, List, ◌++◌, length, take, drop, replicate}
use Rattle.std.proofs.Common.{sym, ap, ◌∙◌, arith}
use Rattle.std.proofs.lemmas.List.{take-append-drop, length-take-le}
use Rattle.tasks.specs.declared.order.Order.TheInside.{Inside}

-- highest priority first
abbrev pub numbers_of : Inside → List ℕ
numbers_of o = take o.len o.numbers

-- at most 32 numbers, and zeros behind them
abbrev pub WithinPlaces : Inside → Type 0
WithinPlaces o = (o.len ≤ 32) × (length o.numbers ≡ 32) × (drop o.len o.numbers ≡ replicate (32 - o.len) 0)

-- the numbers in their places, and zeros behind them
abbrev pub placed : List ℕ → Inside
placed xs = record { numbers = xs ++ replicate (32 - length xs) 0; len = length xs }

same : (ns ms : List ℕ) (n m : ℕ) → ns ≡ ms → n ≡ m → ◌≡◌ {A = Inside} (record { numbers = ns; len = n }) (record { numbers = ms; len = m })
same ns ms n m e f = cc

-- the list forgets nothing of the places
pub placed_numbers_of : (o : Inside) → WithinPlaces o → placed (numbers_of o) ≡ o
placed_numbers_of o h =
    let long : length (take o.len o.numbers) ≡ o.len = length-take-le o.len o.numbers (omega (arith, h.1, h.0)) in
    let behind : replicate (32 - length (take o.len o.numbers)) 0 ≡ drop o.len o.numbers = ap (λ n. replicate (32 - n) 0) long ∙ sym h.2 in
    let all : take o.len o.numbers ++ replicate (32 - length (take o.len o.numbers)) 0 ≡ o.numbers = ap (λ zs. take o.len o.numbers ++ zs) behind ∙ take-append-drop o.len o.numbers in
    same _ _ _ _ all long
