-- What it means that the entries of a section of any kind are kept, or not all of them, and how they are written. Assumes nothing.
use Rattle.std.specs.Prelude.{◌≡◌, ℕ, zero, suc, ◌+◌, ◌*◌, ◌<◌, ◌≤◌, ◌⊎◌, List, [], ◌∷◌, ◌++◌, length, take, Option}
use Rattle.roster_file.specs.declared.fault.FileFault.{FileFault}
use Rattle.roster_file.specs.declared.fault.FileFault.TheVariants.{Cut}
use Rattle.std.specs.List.{flat_map}
use Rattle.std.specs.Option.{option_to_list}

module _ {S E : Type 0} (width : ℕ) (encoded : E → List ℕ) (holds : S → List E → Type 0) where
  -- from an offset on, the rest of the file begins with so many entries, which the section has kept; the file goes on at a later offset
  pub record Kept (rest : List ℕ) (offset count : ℕ) (s : S) (left : List ℕ) (at : ℕ) : Type 0 where
    pub entries : List E
    pub counted : length entries ≡ count
    pub held : holds s entries
    pub bytes : rest ≡ flat_map encoded entries ++ left
    pub forward : at ≡ offset + width * count
    pub end : at + length left ≡ offset + length rest

module _ {S E : Type 0} (width : ℕ) (encoded : E → List ℕ) (fits : E → Type 0) (undecodable : List ℕ → ℕ → FileFault → Type 0) (holds : S → List E → Type 0) (rejects : S → E → ℕ → FileFault → Type 0) where
  -- the next entry is cut short, or its bytes are no entry, or it is rejected
  abbrev pub NextFails : S → List ℕ → ℕ → FileFault → Type 0
  NextFails s left at f =
      ((length left < width) × (f ≡ Cut (at + length left)))
      ⊎ (((width ≤ length left) × undecodable (take width left) at f) ⊎ ((e : E) × (after : List ℕ) × (left ≡ encoded e ++ after) × fits e × rejects s e at f))

  -- fewer entries than were wanted are kept, and the next one fails
  pub record Stopped (rest : List ℕ) (offset count : ℕ) (f : FileFault) : Type 0 where
    pub read : ℕ
    pub s : S
    pub left : List ℕ
    pub at : ℕ
    pub fewer : read < count
    pub kept : Kept width encoded holds rest offset read s left at
    pub fails : NextFails s left at f

-- the entries at the places below a number, by rising place
unfoldable pub below : {E : Type 0} → (ℕ → Option E) → ℕ → List E
below placed zero = []
below placed (suc n) = below placed n ++ option_to_list (placed n)

-- all entries of a section, which has as many places as a table
abbrev pub entries : {E : Type 0} → (ℕ → Option E) → List E
entries placed = below placed 32

-- a section as it stands in a file: the count of its entries, then their bytes
abbrev pub section_bytes : {E : Type 0} → (E → List ℕ) → List E → List ℕ
section_bytes encoded es = length es ∷ flat_map encoded es
