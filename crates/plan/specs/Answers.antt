-- The answer to a file: what its text tells, and where it stands. Assumes nothing.
use Rattle.std.specs.Prelude.{◌≡◌, ℕ, ◌+◌, ◌⊎◌, List, [], ◌∷◌, ◌++◌, length, Some, None, Ok, Err, Result, slice_index_or}
use Rattle.tasks.specs.declared.fault.SpaceFault.{SpaceFault}
use Rattle.tasks.specs.declared.row.Row.{Row}
use Rattle.tasks.specs.declared.table.Table.{Table}
use Rattle.tasks.specs.Spaces.{Written}
use Rattle.roster_file.specs.Layout.{Layout, Refused}
use Rattle.roster_file.specs.Refusals.{file_tells}
use Rattle.roster_file.specs.declared.fault.FileFault.{FileFault}
use Rattle.demand.specs.Demand.{IsResponse}
use Rattle.demand.specs.declared.mode.Mode.TheVariants.{Normal, Abnormal}
use Rattle.tests.specs.Guarantee.{guaranteed}
use Rattle.priority.specs.Passing.{named, NoOrder}
use Rattle.priority.specs.Plans.{IsPlan}
use Rattle.listing.specs.Texts.{listing_text, refusal_text}
use Rattle.listing.specs.declared.line.Line.{Line}
use Rattle.plan.specs.declared.answer.Answer.{Answer}
use Rattle.plan.specs.declared.answer.Answer.TheVariants as answer
use Rattle.plan.specs.declared.answer.NoListing.{NoListing}
use Rattle.plan.specs.declared.answer.NoListing.TheVariants as no_listing

-- the file holds this table, and this is the plan of its tasks under the guarantee test
abbrev pub Planned : List ℕ → Table → List ℕ → Type 0
Planned file t order = (carried : List ℕ) × Layout file t carried × IsPlan guaranteed t order

-- the file is lawful, and no order of its tasks passes the guarantee test
abbrev pub Unordered : List ℕ → Type 0
Unordered file = (t : Table) × (carried : List ℕ) × Layout file t carried × NoOrder guaranteed t

-- the file is refused, or there is no order
abbrev pub Unplanned : List ℕ → NoListing → Type 0
Unplanned file (no_listing.File f) = Refused file f
Unplanned file (no_listing.NoOrder f) = Unordered file

-- the line of a task below the tasks of a list
pub record IsLine (t : Table) (above : List ℕ) (k : ℕ) (l : Line) : Type 0 where
  pub place : l.place ≡ length above + 1
  pub number : l.number ≡ k
  pub row : Row
  pub at : slice_index_or t.places k None ≡ Some row
  pub kind : l.kind ≡ row.kind
  pub normal : IsResponse Normal t.places row (named above) l.normal
  pub abnormal : IsResponse Abnormal t.places row (named above) l.abnormal

-- the lines of the tasks of a list, each below those of another list and those before it
abbrev pub LinesBelow : Table → List ℕ → List ℕ → List Line → Type 0
LinesBelow t above [] [] = Unit {0}
LinesBelow t above (k ∷ ks) (l ∷ ls) = IsLine t above k l × LinesBelow t (above ++ k ∷ []) ks ls
LinesBelow t above [] (l ∷ ls) = ⊥
LinesBelow t above (k ∷ ks) [] = ⊥

-- the lines of an order
abbrev pub LinesOf : Table → List ℕ → List Line → Type 0
LinesOf t order ls = LinesBelow t [] order ls

-- how long the text is
abbrev pub len_of : Answer → ℕ
len_of (answer.Listed n) = n
len_of (answer.Refused n) = n

-- a text, the space before and after, and the answer: the text is written as a listing, or the space is too short for it
abbrev pub AsListing : List ℕ → List ℕ → List ℕ → Result Answer SpaceFault → Type 0
AsListing text before after (Ok (answer.Listed n)) = Written text before after (Ok n)
AsListing text before after (Ok (answer.Refused n)) = ⊥
AsListing text before after (Err f) = Written text before after (Err f)

-- the text is written as a refusal, or the space is too short for it
abbrev pub AsRefusal : List ℕ → List ℕ → List ℕ → Result Answer SpaceFault → Type 0
AsRefusal text before after (Ok (answer.Listed n)) = ⊥
AsRefusal text before after (Ok (answer.Refused n)) = Written text before after (Ok n)
AsRefusal text before after (Err f) = Written text before after (Err f)

-- the lines of the file's tasks in the order of their plan
abbrev pub ListingOf : List ℕ → List Line → Type 0
ListingOf file ls = (t : Table) × (order : List ℕ) × Planned file t order × LinesOf t order ls

-- the number that tells why there is no listing: that of the file's own fault, or 7 where there is no order
abbrev pub RefusalOf : List ℕ → ℕ → Type 0
RefusalOf file n = ((f : FileFault) × Refused file f × (n ≡ (file_tells f).innermost)) ⊎ (Unordered file × (n ≡ 7))

-- the listing of the file, or its refusal
abbrev pub Answered : List ℕ → List ℕ → List ℕ → Result Answer SpaceFault → Type 0
Answered file before after r =
    ((ls : List Line) × ListingOf file ls × AsListing (listing_text ls) before after r)
    ⊎ ((n : ℕ) × RefusalOf file n × AsRefusal (refusal_text n) before after r)
