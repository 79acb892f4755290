-- The entries of a section by rising place, one place more. Assumes nothing.
use Rattle.std.proofs.Common.{◌≡◌, ℕ, zero, suc, ◌+◌, ◌-◌, ◌*◌, ◌<◌, ◌≤◌, List, [], ◌∷◌, ◌++◌, length, Some, None, Option, sym, refl, ap, ◌∙◌, subst, inl, inr, mul-le-mul_left, mul-zero, mul-one, mul-add, add-one, arith, length-append}
use borrow.Rule.Slice.PartMut.{put_mid}
use Rattle.std.proofs.lemmas.List.{append-nil, flat_map_more, length_push, map-id}
use Rattle.std.proofs.lemmas.Bool.{cases_lt}
use Rattle.std.proofs.lemmas.List.Elements.{filter_map-append}
use Rattle.std.proofs.lemmas.List.FromFn.{map-range_with_len_more}
use Rattle.std.specs.List.{flat_map, filter_map, cons_option, range_with_len}
use Rattle.std.specs.Option.{option_to_list}
use Rattle.roster_file.specs.Sections.{below, entries}
use Rattle.roster_file.specs.Spaces.{Put}
use Rattle.roster_file.proofs.Spaces.{put_part, put_then}

module _ {E : Type 0} (placed : ℕ → Option E) where
  pub below_none : below placed 0 ≡ []
  unfolding below
  below_none = refl

  pub below_more : (n : ℕ) → below placed (n + 1) ≡ below placed n ++ option_to_list (placed n)
  unfolding below
  below_more n = ap (below placed) (add-one n)

  range_more : (n : ℕ) → range_with_len 0 (n + 1) ≡ range_with_len 0 n ++ (n ∷ [])
  range_more n = sym (map-id (range_with_len 0 (n + 1))) ∙ map-range_with_len_more (λ k. k) 0 n n (omega arith) ∙ ap (λ xs. xs ++ (n ∷ [])) (map-id (range_with_len 0 n))

  none_or_one : (o : Option E) → cons_option o [] ≡ option_to_list o
  none_or_one None = refl
  none_or_one (Some e) = refl

  -- the entries at the places of a range
  pub below_range : (n : ℕ) → filter_map placed (range_with_len 0 n) ≡ below placed n
  unfolding below
  below_range zero = refl
  below_range (suc n) =
      ap (λ k. filter_map placed (range_with_len 0 k)) (sym (add-one n)) ∙ ap (filter_map placed) (range_more n) ∙ filter_map-append placed (range_with_len 0 n) (n ∷ [])
      ∙ ap (λ es. es ++ cons_option (placed n) []) (below_range n) ∙ ap (λ es. below placed n ++ es) (none_or_one (placed n))

  -- an empty place adds none
  pub below_empty : (n : ℕ) → placed n ≡ None → below placed (n + 1) ≡ below placed n
  below_empty n e = below_more n ∙ ap (λ o. below placed n ++ option_to_list o) e ∙ append-nil (below placed n)

  pub below_taken : (n : ℕ) (e : E) → placed n ≡ Some e → below placed (n + 1) ≡ below placed n ++ (e ∷ [])
  below_taken n e q = below_more n ∙ ap (λ o. below placed n ++ option_to_list o) q

  pub length_below : (n m : ℕ) → n ≤ m → length (below placed n) ≤ length (below placed m)
  unfolding below
  length_below n zero h = ap_le (omega arith) where
    ap_le : n ≡ 0 → length (below placed n) ≤ length (below placed 0)
    ap_le e = omega (arith, ap (λ k. length (below placed k)) e)
  length_below n (suc m) h = elim (cases_lt m n) [
    | inl l ↦ omega (arith, ap (λ k. length (below placed k)) (full l))
    | inr l ↦ omega (arith, length_below n m l, length-append (below placed m) (option_to_list (placed m)))
  ] where
    full : m < n → n ≡ suc m
    full l = omega arith

module _ {E : Type 0} (encoded : E → List ℕ) (width : ℕ) (wide : (e : E) → length (encoded e) ≡ width) where
  pub length_joined : (es : List E) → length (flat_map encoded es) ≡ width * length es
  length_joined [] = sym (mul-zero width)
  length_joined (e ∷ es) = length-append (encoded e) (flat_map encoded es) ∙ omega (arith, wide e, length_joined es, mul-add width 1 (length es), mul-one width)

  -- there is room for one more entry
  pub room : (placed : ℕ → Option E) (n start next w long : ℕ) (e : E) → n < 32 → placed n ≡ Some e → w ≡ width → start + width * length (entries placed) ≤ long → next ≡ start + length (flat_map encoded (below placed n)) → next + w ≤ long
  room placed n start next w long e l q same h k =
      let more = ap length (below_taken placed n e q) ∙ length_push (below placed n) e in
      let some : length (below placed n) + 1 ≤ length (entries placed) = omega (arith, length_below placed (n + 1) 32 (omega arith)) in
      omega (arith, mul-le-mul_left width some, length_joined (below placed n), mul-add width (length (below placed n)) 1, mul-one width)

  -- an entry is written after those before it
  pub put_entry : (placed : ℕ → Option E) (n start next w : ℕ) (a b part : List ℕ) (e : E) → placed n ≡ Some e → w ≡ width → next + w ≤ length b → part ≡ encoded e → Put start (flat_map encoded (below placed n)) a b next
      → Put start (flat_map encoded (below placed (n + 1))) a (put_mid next (next + w - next) b part) (next + w)
  put_entry placed n start next w a b part e q k h m p =
      subst (λ bytes. Put start bytes a (put_mid next (next + w - next) b part) (next + w)) (flat_map_more encoded [] (below placed n) e ∙ ap (flat_map encoded) (sym (below_taken placed n e q)))
      (put_then p (put_part next w (next + w) b part (encoded e) m (wide e ∙ sym k) refl h))
