-- How texts laid one after the other join, and what a space holds that a text fits into. Assumes nothing.
use Rattle.std.proofs.Common.{◌≡◌, ℕ, ◌+◌, ◌<◌, ◌≤◌, List, [], ◌∷◌, ◌++◌, length, get_or, take, drop, set, sym, refl, ap, ◌∙◌, add-zero, arith}
use Rattle.std.specs.List.{flat_map}
use Rattle.std.proofs.lemmas.List.{append-nil, append_assoc, length-append, length-set, take_more_set, drop-set-lt, take-append-drop, take_more, flat_map_more}
use Rattle.listing.specs.Pens.{laid, Lays, Front}
use Rattle.listing.specs.declared.pen.Pen.{Pen}

laid_append : (k : ℕ) (x y s : List ℕ) → laid k (x ++ y) s ≡ laid (k + length x) y (laid k x s)
unfolding laid
laid_append k [] y s = rw add-zero
laid_append k (b ∷ x) y s =
    laid_append (k + 1) x y (set s k b) ∙ ap (λ n. laid n y (laid (k + 1) x (set s k b))) (omega arith)

pub lays_none : (p : Pen) → Lays [] p p
unfolding laid
lays_none p = record { same = refl; ends = sym (add-zero p.at); lies = refl }

pub then : {x y : List ℕ} {a b c : Pen} → Lays x a b → Lays y b c → Lays (x ++ y) a c
then {x} {y} {a} {b} {c} p q = record {
  same = q.same ∙ p.same;
  ends = simp length-append (omega arith);
  lies = q.lies ∙ rw (p.ends, p.lies) (sym (laid_append a.at x y a.space.now));
}

-- one more text of a row of texts
pub lays_more : {X : Type 0} {a b c : Pen} (f : X → List ℕ) (xs : List X) (i : ℕ) (d : X) → i < length xs → Lays (flat_map f (take i xs)) a b → Lays (f (get_or xs i d)) b c → Lays (flat_map f (take (i + 1) xs)) a c
lays_more f xs i d h p q = rw (take_more xs i d h, ← flat_map_more f [] (take i xs) (get_or xs i d)) (then p q)

laid_within : (k : ℕ) (t s : List ℕ) → k + length t ≤ length s → laid k t s ≡ take k s ++ t ++ drop (k + length t) s
unfolding laid
laid_within k [] s h = sym (rw (append-nil, add-zero, take-append-drop))
laid_within k (b ∷ t) s h =
    let within : k < length s = omega arith in
    let more : k + 1 + length t ≤ length (set s k b) = rw length-set (omega arith) in
    let past : k < k + 1 + length t = omega arith in
    laid_within (k + 1) t (set s k b) more ∙ rw (take_more_set, drop-set-lt, append_assoc (take k s) (b ∷ []) t) (ap (λ n. take k s ++ b ∷ t ++ drop n s) (omega arith))

-- a pen that begins at the front lays the text there
pub from_front : {t s : List ℕ} {a b : Pen} → Lays t a b → a.at ≡ 0 → s ≡ b.space.now → Front t a.space.now s b.at
from_front {t} {s} {a} {b} p z e = record {
  ends = omega (arith, p.ends);
  lies = λ h.
      let within : 0 + length t ≤ length a.space.now = omega arith in
      e ∙ p.lies ∙ ap (λ k. laid k t a.space.now) z ∙ laid_within 0 t a.space.now within ∙ ap (λ m. t ++ drop m a.space.now) (omega arith);
}
