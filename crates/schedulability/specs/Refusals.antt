-- What the fault of a test or layer tells. Assumes nothing.
use Rattle.tasks.specs.Refusals.{plain}
use Rattle.tasks.specs.declared.refusal.Refusal.{Refusal}
use Rattle.tasks.specs.declared.refusal.Layer.TheVariants as layer
use Rattle.schedulability.specs.declared.fault.TestFault.{TestFault}
use Rattle.schedulability.specs.declared.fault.TestFault.TheVariants.{Reserve, Limit}

-- the place told is the value given
abbrev pub test_tells : TestFault → Refusal
test_tells (Reserve n) = plain 21 layer.Pile n
test_tells (Limit n) = plain 22 layer.Pile n
