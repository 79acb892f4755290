-- The number falls to its tenth. Assumes nothing.
use Rattle.listing.proofs.text.U32Text.+lay.Given as goal

abbrev pub decreases-lay : goal.decreases-lay
decreases-lay l = l.self.now
