-- A table changed row by row keeps its bounds, and commutes with taking a task off. Assumes nothing.
use Rattle.std.proofs.Common.{◌≡◌, ℕ, zero, suc, ◌+◌, ◌<◌, ◌≤◌, List, [], ◌∷◌, ◌++◌, map, length, get_or, take, drop, set, Some, None, Option, refl, ap, ◌∙◌, subst, arith, length-append, length-drop, length-take}
use lib.ListN.{length-map}
use Rattle.std.proofs.lemmas.List.Edits.{map_over_more}
use Rattle.std.proofs.lemmas.List.{get_or_default, take_all, drop_all, append-nil, map-set}
use Rattle.std.specs.Option.{option_map}
use Rattle.tasks.specs.Bounds.{Every}
use Rattle.tasks.specs.Changes.{changed_places}
use Rattle.tasks.specs.declared.row.Row.{Row}

module _ {X : Type 0} (f : X → X) where
  -- the entries up to an index are changed, and one more is
  pub turn : (xs ys : List X) (i : ℕ) (d : X) → i < length xs → ys ≡ map f (take i xs) ++ drop i xs → set ys i (f (get_or ys i d)) ≡ map f (take (i + 1) xs) ++ drop (i + 1) xs
  turn xs ys i d in' e =
      let long : length ys ≡ length xs = ap length e ∙ simp (length-append, length-map, length-take, length-drop) (omega arith) in
      map_over_more f xs ys i (get_or ys i d) in' e (get_or_default ys i d (get_or ys i d) (omega arith))

  pub whole : (xs ys : List X) (i : ℕ) → length xs ≤ i → ys ≡ map f (take i xs) ++ drop i xs → ys ≡ map f xs
  whole xs ys i l e = e ∙ ap (λ q. map f (take i xs) ++ q) (drop_all i xs l) ∙ append-nil (map f (take i xs)) ∙ ap (map f) (take_all i xs l)

module _ (P : Row → Type 0) (f : Row → Row) where
  -- what each place had of a row, the changed one has
  pub every_changed : (ps : List (Option Row)) → ((n : ℕ) (r : Row) → get_or ps n None ≡ Some r → P (f r)) → Every P (changed_places f ps)
  every_changed [] h n r e = absurd (grind arith)
  every_changed (None ∷ ps) h zero r e = absurd (grind arith)
  every_changed (Some s ∷ ps) h zero r e = let q : f s ≡ r = cc in subst P q (h zero s refl)
  every_changed (p ∷ ps) h (suc n) r e = every_changed ps (λ m. h (suc m)) n r e

-- changed and then taken off, or taken off and then changed
pub changed_emptied : (f : Row → Row) (ps : List (Option Row)) (j : ℕ) → changed_places f (set ps j None) ≡ set (changed_places f ps) j None
changed_emptied f ps j = map-set (option_map f) ps j None
