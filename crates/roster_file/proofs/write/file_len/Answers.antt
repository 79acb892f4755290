use Rattle.std.proofs.Common.{arith}
use Rattle.roster_file.proofs.Canonical.{length_sections}
use Rattle.roster_file.proofs.write.file_len.Goals as goal

pub returns : goal.returns
returns c =
    let made = c.sections_of-numbers.ensures in
    omega (arith, length_sections made.0 made.1, c.section_len.ensures.len, c.section_len-2.ensures.len)
