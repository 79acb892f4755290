use Rattle.std.proofs.Common.{rules}
use Rattle.tasks.specs.Orders.{Lists}
use Rattle.samples.proofs.roster.Roster.add.Goals as goal
use Rattle.samples.proofs.Taking.{more_listed, stands}

pub unwrap-standing-requires : goal.unwrap-standing-requires
unwrap-standing-requires c =
    let e = c.in_ok-enter.ensures.entered in
    let s : Lists c.order.result.now c.table.result.now.places = search rules in
    stands _ _ c.new.result c.new.ensures (more_listed c.table.result.now c.order.result.now c.push.new.self c.args.number c.args.row c.push.result _ s e.0.0 e.1 e.2 c.push.ensures.room c.push.ensures.pushed)
