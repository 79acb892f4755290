-- How bytes written one after the other into a space join. Assumes nothing.
use Rattle.std.proofs.Common.{◌≡◌, ℕ, ◌+◌, ◌-◌, ◌<◌, ◌≤◌, List, [], ◌∷◌, ◌++◌, length, take, drop, set, Ok, sym, refl, ap, ◌∙◌, le_refl, add-zero, zero-add, add-one, arith, length-append}
use lib.Seq.{paste}
use borrow.Rule.Slice.PartMut.{put_mid}
use Rattle.std.proofs.lemmas.List.Edits.{paste_none, paste-paste, length-paste}
use Rattle.std.proofs.lemmas.List.{append_assoc, append-nil, drop_all, set_split, take_all, take_at}
use Rattle.std.proofs.lemmas.Slice.{put_mid-paste}
use Rattle.roster_file.specs.Spaces.{Put}
use Rattle.tasks.specs.Spaces.{Written}

pub put_none : (k : ℕ) (s : List ℕ) → k ≤ length s → Put k [] s s k
put_none k s h = record { ends = sym (add-zero k); fits = h; lies = paste_none s k [] }

pub put_byte : (k b : ℕ) (s : List ℕ) → k < length s → Put k (b ∷ []) s (set s k b) (k + 1)
put_byte k b s h = record { ends = refl; fits = omega arith; lies = set_split s k b h ∙ ap (λ n. take k s ++ b ∷ drop n s) (sym (add-one k)) ∙ sym (append_assoc (take k s) (b ∷ []) (drop (k + 1) s)) }

-- what was written into a part of the space
pub put_part : (k width next : ℕ) (s part bytes : List ℕ) → part ≡ bytes → length bytes ≡ width → next ≡ k + width → next ≤ length s → Put k bytes s (put_mid k (next - k) s part) next
put_part k width next s part bytes e w n h = record { ends = omega arith; fits = h; lies = put_mid-paste k (next - k) s part bytes (length bytes) e (omega arith) refl }

pub put_then : {k m n : ℕ} {x y a b c : List ℕ} → Put k x a b m → Put m y b c n → Put k (x ++ y) a c n
put_then {k} {m} {n} {x} {y} {a} {b} {c} p q =
    let e : length x + length y ≡ length (x ++ y) = sym (length-append x y) in
    record {
      ends = omega arith;
      fits = omega (arith, ap length p.lies, length-paste a k x (length x) (omega arith) (omega arith));
      lies = q.lies ∙ ap (λ s. paste s m y (length y)) p.lies ∙ ap (λ i. paste (paste a k x (length x)) i y (length y)) p.ends
          ∙ paste-paste a k x y (length x) (length y) refl refl (omega arith) ∙ ap (paste a k (x ++ y)) e;
    }

-- a file put at the front of a space
pub put_front : (file before after : List ℕ) (n : ℕ) → Put 0 file before after n → Written file before after (Ok n)
put_front file before after n p = (
  p.ends ∙ zero-add (length file),
  omega (arith, p.ends, p.fits),
  p.lies ∙ ap (λ xs. xs ++ drop (0 + length file) before) (take_all (length file) file (le_refl (length file))) ∙ ap (λ k. file ++ drop k before) (zero-add (length file)),
)

-- and read from there
pub front_of : (file before after : List ℕ) (n : ℕ) → Written file before after (Ok n) → take n after ≡ file
front_of file before after n (e, l, q) = ap (take n) q ∙ take_at file (drop (length file) before) n (sym e)

-- a file put into a space of its length is all of it
pub put_all : (file before after : List ℕ) (n : ℕ) → Put 0 file before after n → length before ≡ length file → after ≡ file
put_all file before after n p e = (put_front file before after n p).2 ∙ ap (λ xs. file ++ xs) (drop_all (length file) before (omega arith)) ∙ append-nil file
