use Rattle.std.proofs.Common.{◌+◌, length, sym, ◌∙◌, arith, length-set}
use Rattle.roster_file.proofs.Spaces.{put_none}
use Rattle.roster_file.proofs.Writing.{below_none, below_empty, room, put_entry}
use Rattle.roster_file.proofs.writer.put_section.Goals as goal
use Rattle.roster_file.proofs.writer.put_section.Goals.{in-Some, in_default}

pub loop-place-init : goal.loop-place-init
loop-place-init g c =
    let d = g.S.Section in
    rw (below_none (d.placed c.args.section.now)) (put_none (c.args.at + 1) _ (omega (arith, length-set c.args.space.now c.args.at c.count_of.result)))

pub slice_bounds-encode-end : goal.slice_bounds-encode-end
slice_bounds-encode-end g c =
    let d = g.S.Section in
    let l = c.loop-place in
    let long = length-set c.args.space.now c.args.at c.count_of.result in
    room d.encoded d.WIDTH g.met.S.Section.wide (d.placed c.args.section.now) l.place (c.args.at + 1) l.next c.WIDTH.result (length l.space) c.in-Some.entry (omega arith)
    (sym c.entry_at.ensures ∙ c.in-Some.is) c.WIDTH.ensures (omega arith) l.invariant.ends

pub loop-place-preserved : goal.loop-place-preserved
loop-place-preserved g c =
    let d = g.S.Section in
    let placed = d.placed c.args.section.now in
    let l = c.loop-place in
    let long = length-set c.args.space.now c.args.at c.count_of.result in
    elim c.match-entry_at.branch [
      | in-Some w ↦
          let here = sym c.entry_at.ensures ∙ w.in-Some.is in
          let fits = room d.encoded d.WIDTH g.met.S.Section.wide placed l.place (c.args.at + 1) l.next w.WIDTH.result (length l.space) w.in-Some.entry (omega arith) here w.WIDTH.ensures (omega arith) l.invariant.ends in
          rw (w.space-is, w.next-is) (put_entry d.encoded d.WIDTH g.met.S.Section.wide placed l.place _ l.next w.WIDTH.result _ l.space _ w.in-Some.entry here w.WIDTH.ensures fits w.encode.ensures l.invariant)
      | in_default w ↦ rw (w.space-is, w.next-is, below_empty placed l.place (sym c.entry_at.ensures ∙ w.in_default.is)) l.invariant
    ]
