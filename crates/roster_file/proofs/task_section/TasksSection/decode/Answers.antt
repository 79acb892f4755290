use Rattle.std.proofs.Common.{◌≡◌, ◌*◌, length, get_or, take, drop, sym, ap, ◌∙◌, arith, rules}
use Rattle.std.specs.List.{flat_map}
use Rattle.tasks.specs.Kinds.{kind_byte}
use Rattle.roster_file.specs.Entries.{time_bytes}
use Rattle.roster_file.proofs.Bytes.{task_from, times_from}
use Rattle.roster_file.proofs.Holding.{mapped}
use Rattle.roster_file.proofs.task_section.TasksSection.decode.Goals as goal

pub returns : goal.returns
returns c =
    let xs = c.args.bytes.now in
    let ts = c.from_fn-times.result in
    let made = c.from_fn-times.ensures.items in
    let kind : kind_byte c.in_ok-kind.kind ≡ get_or xs 1 0 = mapped _ _ _ c.try_from.result c.map_err.result c.in_ok-kind.kind c.try_from.ensures c.map_err.ensures.cases c.map_err.ensures.variant c.in_ok-kind.was in
    let read : flat_map time_bytes ts ≡ take 20 (drop 2 xs) = times_from _ _ xs ts (λ i t q k. search rules) 0 5 (sym made.long) made.each in
    let five : length ts ≡ 5 = made.long in
    let twenty : 20 ≡ 4 * length ts = omega arith in
    let whole = task_from xs ts (kind_byte c.in_ok-kind.kind) (omega (arith, c.requires.whole)) (sym kind) (read ∙ ap (λ n. take n (drop 2 xs)) twenty) in
    (whole ∙ cc (ap kind_byte c.row_of.ensures.0, ap (flat_map time_bytes) c.row_of.ensures.1), search rules)
