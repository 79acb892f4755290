-- Each task of the order has its line. Assumes nothing.
use Rattle.std.proofs.Common.{◌≡◌, is_some, sym, ap, ◌∙◌, arith}
use Rattle.priority.proofs.Judging.{above_more}
use Rattle.tasks.proofs.Listing.{listed_in_use}
use Rattle.plan.proofs.Lining.{lines_next}
use Rattle.plan.proofs.answer.lines.Goals as goal

pub unwrap-row-requires : goal.unwrap-row-requires
unwrap-row-requires c =
    let s = c.args.standing.now in
    let xs = c.as_slice-number-items.result.now in
    let u = c.table-table.result.now in
    let same : xs ≡ s.order = cc in
    let named = rw (← same, ← c.table-table.ensures) at s.named in
    ap is_some c.row.ensures.value ∙ listed_in_use xs u.places c.loop-i.i (omega arith) named

pub loop-i-preserved : goal.loop-i-preserved
loop-i-preserved c =
    let s = c.args.standing.now in
    let xs = c.as_slice-number-items.result.now in
    let u = c.table-table.result.now in
    let i = c.loop-i.i in
    let h = c.loop-i.above.bits in
    let same : xs ≡ s.order = cc in
    let named = rw (← same, ← c.table-table.ensures) at s.named in
    let above = rw (← same) at c.loop-i.invariant.above in
    let lines = rw (← same, ← c.table-table.ensures) at c.loop-i.invariant.lines in
    let at = sym c.row.ensures.value ∙ c.unwrap-row.ensures in
    rw (← same, ← c.table-table.ensures) (record {
      above = above_more xs u i h _ (omega arith) named above c.with-above.ensures.bits;
      lines = lines_next u xs i h c.unwrap-row.result c.response.result c.response-in-loop-i.result c.loop-i.lines c.push.new.self c.push.result (omega arith) named above at c.response.ensures c.response-in-loop-i.ensures lines c.push.ensures.pushed;
    })
