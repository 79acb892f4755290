-- A list of known length, cut into its pieces. Assumes nothing.
use Rattle.std.proofs.Common.{◌≡◌, ℕ, zero, suc, ◌+◌, ◌*◌, ◌/◌, ◌%◌, ◌<◌, ◌≤◌, List, [], ◌∷◌, ◌++◌, length, get_or, take, drop, set, sym, refl, ap, ◌∙◌, subst, arith, length-drop, take-add}
use Rattle.std.proofs.lemmas.List.{drop_more, drop_all, drop-drop, take-append-drop, take_all, take_more, flat_map_more}
use borrow.Rule.Slice.PartMut.{put_mid}
use Rattle.std.proofs.lemmas.Slice.{take-put_mid}
use Rattle.std.specs.Array.{IsFromFnResultFrom}
use Rattle.std.specs.Fn.{Called}
use Rattle.std.specs.List.{flat_map}
use denote.Param.Members.{Mut}
use Rattle.roster_file.specs.Entries.{time_bytes}

-- each call read a time from its four bytes, so the times read are those of the bytes
module _ {F : Type 0} (g : Mut F (ℕ × Unit {0}) ℕ) (f : F) (xs ts : List ℕ) (each : (i t : ℕ) (q : F) → Called g f (i, tt) t q → (q ≡ f) × (time_bytes t ≡ take 4 (drop (2 + 4 * i) xs))) where
  pub times_from : (i n : ℕ) → i + n ≡ length ts → IsFromFnResultFrom g f ts i n → flat_map time_bytes (drop i ts) ≡ take (4 * n) (drop (2 + 4 * i) xs)
  times_from i zero l r = ap (flat_map time_bytes) (drop_all i ts (omega arith))
  times_from i (suc n) l (q, t, here, called, r) =
      let k = each i t q called in
      let rest = times_from (i + 1) n (omega arith) (subst (λ p. IsFromFnResultFrom g p ts (i + 1) n) k.0 r) in
      let later = take (4 * n) (drop (2 + 4 * (i + 1)) xs) in
      ap (flat_map time_bytes) (drop_more ts i t (omega arith))
      ∙ ap (λ u. time_bytes u ++ flat_map time_bytes (drop (i + 1) ts)) here.0
      ∙ ap (λ bs. time_bytes t ++ bs) rest
      ∙ ap (λ bs. bs ++ later) k.1
      ∙ ap (λ m. take 4 (drop (2 + 4 * i) xs) ++ take (4 * n) (drop m xs)) (omega arith)
      ∙ ap (λ ys. take 4 (drop (2 + 4 * i) xs) ++ take (4 * n) ys) (sym (drop-drop 4 (2 + 4 * i) xs))
      ∙ sym (take-add 4 (4 * n) (drop (2 + 4 * i) xs))
      ∙ ap (λ m. take m (drop (2 + 4 * i) xs)) (omega arith)

-- the next four entries, and the rest
pub next_four : (xs : List ℕ) (i j : ℕ) → i + 4 ≡ j → drop i xs ≡ take 4 (drop i xs) ++ drop j xs
next_four xs i j e = sym (take-append-drop 4 (drop i xs)) ∙ ap (λ ys. take 4 (drop i xs) ++ ys) (drop-drop 4 i xs ∙ ap (λ k. drop k xs) e)

-- four entries more
pub four_more : (xs : List ℕ) (i : ℕ) → take (4 * (i + 1)) (drop 2 xs) ≡ take (4 * i) (drop 2 xs) ++ take 4 (drop (2 + 4 * i) xs)
four_more xs i = ap (λ n. take n (drop 2 xs)) (omega arith) ∙ take-add (4 * i) 4 (drop 2 xs) ∙ ap (λ ys. take (4 * i) (drop 2 xs) ++ take 4 ys) (drop-drop (4 * i) 2 xs)

-- a record's bytes: its number, its kind, and its times
pub task_from : (xs ts : List ℕ) (kind : ℕ) → length xs ≡ 2 + 4 * length ts → get_or xs 1 0 ≡ kind → flat_map time_bytes ts ≡ take (4 * length ts) (drop 2 xs) → xs ≡ get_or xs 0 0 ∷ kind ∷ flat_map time_bytes ts
task_from xs ts kind long k e =
    let f0 = drop_more xs 0 0 (omega arith) in
    let f1 = drop_more xs 1 0 (omega arith) in
    let end = take_all (4 * length ts) (drop 2 xs) (omega (arith, length-drop 2 xs)) in
    cc

-- the bytes of a time, as the machine has them
pub time_as_bytes : (n : ℕ) → n % 256 ∷ n / 256 % 256 ∷ n / 65536 % 256 ∷ n / 16777216 % 256 ∷ [] ≡ time_bytes n
time_as_bytes n =
    let b : n / 256 / 256 ≡ n / 65536 = omega arith in
    let c : n / 256 / 256 / 256 ≡ n / 16777216 = omega arith in
    cc

-- the first two entries, written
two_set : (xs : List ℕ) (a b : ℕ) → 2 ≤ length xs → take 2 (set (set xs 0 a) 1 b) ≡ a ∷ b ∷ []
two_set [] a b h = absurd (omega arith)
two_set (x ∷ []) a b h = absurd (omega arith)
two_set (x ∷ (y ∷ xs)) a b h = refl

-- one time more, written over the next four entries
pub time_put : (bs hs ts ys : List ℕ) (i k : ℕ) → i < length ts → 2 + 4 * i ≤ length bs → take (2 + 4 * i) bs ≡ hs ++ flat_map time_bytes (take i ts) → ys ≡ time_bytes (get_or ts i 0)
    → take (2 + 4 * (i + 1)) (put_mid (2 + 4 * i) k bs ys) ≡ hs ++ flat_map time_bytes (take (i + 1) ts)
time_put bs hs ts ys i k l m e y =
    let f = take-put_mid (2 + 4 * i) k bs ys (2 + 4 * (i + 1)) (omega (arith, ap length y)) m in
    let a = take_more ts i 0 l in
    let b = flat_map_more time_bytes hs (take i ts) (get_or ts i 0) in
    cc

-- the number, the kind and all times are written
pub task_put : (bs xs ts fs : List ℕ) (i number byte kind : ℕ) → 2 ≤ length xs → length bs ≤ 2 + 4 * i → length ts ≤ i → take (2 + 4 * i) bs ≡ take 2 (set (set xs 0 number) 1 byte) ++ flat_map time_bytes (take i ts) → byte ≡ kind → ts ≡ fs
    → bs ≡ number ∷ kind ∷ flat_map time_bytes fs
task_put bs xs ts fs i number byte kind h m l e k f =
    let whole = take_all (2 + 4 * i) bs m in
    let head = two_set xs number byte h in
    let all = take_all i ts l in
    cc
