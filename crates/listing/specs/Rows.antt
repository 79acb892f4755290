-- The lines that a list of fixed size holds. Assumes nothing.
use Rattle.std.specs.Prelude.{◌≡◌, ℕ, ◌≤◌, List, ◌++◌, length, replicate, take, drop, None}
use Rattle.std.proofs.Common.{sym, ap, ◌∙◌, arith}
use Rattle.std.proofs.lemmas.List.{length-take-le, take-append-drop}
use Rattle.tasks.specs.declared.kind.Kind.TheVariants.{Tolerable}
use Rattle.listing.specs.declared.line.Line.{Line}
use Rattle.listing.specs.declared.lines.Lines.TheInside.{Inside}

-- thirty-two lines of which none was pushed
abbrev pub blanks : List Line
blanks = replicate 32 (record { place = 0; number = 0; kind = Tolerable; normal = None; abnormal = None })

-- the lines that were pushed
abbrev pub pushed : Inside → List Line
pushed a = take a.len a.lines

-- there is room for 32 lines, and those that were not pushed are blank
abbrev pub Padded : Inside → Type 0
Padded a = (length a.lines ≡ 32) × (a.len ≤ 32) × (drop a.len a.lines ≡ drop a.len blanks)

-- the lines with the blank ones after them
abbrev pub padded : List Line → Inside
padded ls = record { lines = ls ++ drop (length ls) blanks; len = length ls }

-- so the lines that were pushed give all the others
pub padded_pushed : (a : Inside) → Padded a → padded (pushed a) ≡ a
padded_pushed a h =
    rw (length-take-le a.len a.lines (omega arith)) (ap (with_len a.len) (ap (λ ls. take a.len a.lines ++ ls) (sym h.2) ∙ take-append-drop a.len a.lines)) where
      with_len : ℕ → List Line → Inside
      with_len n ls = record { lines = ls; len = n }
