use Rattle.std.proofs.Common.{◌≡◌, length, ap, ◌∙◌, arith, length-set}
use Rattle.roster_file.specs.Entries.{task_width}
use Rattle.roster_file.proofs.Bytes.{task_put, time_put, time_as_bytes}
use Rattle.roster_file.proofs.task_section.TasksSection.encode.Goals as goal

pub loop-i-preserved : goal.loop-i-preserved
loop-i-preserved c =
    let l = c.loop-i in
    let long : length l.bytes ≡ task_width = l.auto.bytes ∙ length-set _ _ _ ∙ length-set _ _ _ ∙ c.requires in
    time_put l.bytes _ c.times_of.result _ l.i _ (omega (arith, ap length c.times_of.ensures)) (omega arith) l.invariant (c.copy_from_slice.ensures.after ∙ c.to_le_bytes.ensures ∙ time_as_bytes _)

pub returns : goal.returns
returns c =
    let l = c.loop-i in
    let long : length l.bytes ≡ task_width = l.auto.bytes ∙ length-set _ _ _ ∙ length-set _ _ _ ∙ c.requires in
    let few = ap length c.times_of.ensures in
    task_put l.bytes c.args.bytes.now c.times_of.result _ l.i _ _ _ (omega arith) (omega arith) (omega arith) l.invariant c.from.ensures c.times_of.ensures
