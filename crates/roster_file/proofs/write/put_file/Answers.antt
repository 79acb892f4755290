use Rattle.std.proofs.Common.{◌<◌, length, set, refl, subst, arith, length-set}
use Rattle.roster_file.specs.Entries.{number_bytes, task_bytes, tasks_in, numbers_in}
use Rattle.roster_file.specs.Sections.{entries, section_bytes}
use Rattle.roster_file.specs.Spaces.{Put}
use Rattle.roster_file.specs.Writing.{assembled}
use Rattle.roster_file.proofs.Canonical.{length_assembled, length_sections}
use Rattle.roster_file.proofs.Spaces.{put_byte, put_then}
use Rattle.roster_file.proofs.Writing.{length_joined}
use Rattle.roster_file.proofs.write.put_file.Goals as goal

pub bounds-space-0 : goal.bounds-space-0
bounds-space-0 c = let s = c.args.standing.now in omega (arith, length_assembled s.table s.order)

pub put_section-at-requires : goal.put_section-at-requires
put_section-at-requires c =
    let made = c.sections_of-numbers.ensures in
    omega (arith, length_sections made.0 made.1, length-set c.args.space.now 0 1)

pub put_section-requires : goal.put_section-requires
put_section-requires c =
    let made = c.sections_of-numbers.ensures in
    let es = entries (tasks_in c.sections_of-numbers.result.0.table.places) in
    omega (arith, length_sections made.0 made.1, length_joined task_bytes 22 (λ e. refl) es, length-set c.args.space.now 0 1, c.put_section-at.ensures.ends, c.put_section-at.auto.space)

pub returns : goal.returns
unfolding assembled
returns c =
    let s = c.args.standing.now in
    let space = c.args.space.now in
    let some : 0 < length space = omega (arith, c.requires, length_assembled s.table s.order) in
    let first = c.put_section-at.new.space in
    let tasks = subst (λ t. Put 1 (section_bytes task_bytes (entries (tasks_in t.places))) (set space 0 1) first c.put_section-at.result) c.sections_of-numbers.ensures.0 c.put_section-at.ensures in
    let numbers = subst (λ o. Put c.put_section-at.result (section_bytes number_bytes (entries (numbers_in o))) first c.put_section.new.space c.put_section.result) c.sections_of-numbers.ensures.1 c.put_section.ensures in
    put_then (put_then (put_byte 0 1 space some) tasks) numbers
