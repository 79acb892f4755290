-- What each fault of planning a file tells. Assumes nothing.
use Rattle.tasks.specs.declared.refusal.Refusal.{Refusal}
use Rattle.roster_file.specs.Refusals.{file_tells}
use Rattle.priority.specs.Refusals.{plan_tells}
use Rattle.plan.specs.declared.answer.NoListing.{NoListing}
use Rattle.plan.specs.declared.answer.NoListing.TheVariants.{File, NoOrder}

-- a fault of the file is told as it is, and so is that there is no order
abbrev pub no_listing_tells : NoListing → Refusal
no_listing_tells (File f) = file_tells f
no_listing_tells (NoOrder f) = plan_tells f
