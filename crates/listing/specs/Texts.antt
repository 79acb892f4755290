-- The bytes of a listing and of a refusal. Assumes nothing.
use Rattle.std.specs.Prelude.{ℕ, List, [], ◌∷◌, ◌++◌, length, Some, None, codes, decimal, Option}
use Rattle.std.specs.List.{flat_map}
use Rattle.tasks.specs.declared.kind.Kind.{Kind}
use Rattle.tasks.specs.declared.kind.Kind.TheVariants.{Strict, Tolerable}
use Rattle.listing.specs.declared.line.Line.{Line}

-- `S` or `T`
abbrev pub letter : Kind → ℕ
letter Strict = 83
letter Tolerable = 84

-- a dash where there is no time
abbrev pub time_text : Option ℕ → List ℕ
time_text (Some t) = decimal t
time_text None = codes "-"

-- one space
abbrev pub blank : List ℕ
blank = codes " "

-- the end of a line
abbrev pub newline : List ℕ
newline = 10 ∷ []

-- a line of a listing
unfoldable pub line_text : Line → List ℕ
line_text l =
    decimal l.place ++ blank ++ decimal l.number ++ blank ++ letter l.kind ∷ [] ++ blank ++ time_text l.normal ++ blank ++ time_text l.abnormal ++ newline

-- a whole listing
unfoldable pub listing_text : List Line → List ℕ
listing_text ls = codes "order " ++ decimal (length ls) ++ newline ++ flat_map line_text ls

-- the line of a refusal
unfoldable pub refusal_text : ℕ → List ℕ
refusal_text n = codes "refused " ++ decimal n ++ newline
