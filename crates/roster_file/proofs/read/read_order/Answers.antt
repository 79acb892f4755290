use Rattle.std.proofs.Common.{refl, rules}
use Rattle.roster_file.proofs.Reading.{order_answered}
use Rattle.roster_file.proofs.read.read_order.Goals as goal

pub returns : goal.returns
returns c =
    let r = c.args.reader.now in
    let n = c.in_ok-count.ensures.read in
    let s = c.in_ok-numbers.numbers in
    rw c.ok_or.ensures.value (order_answered r.rest.now c.next.new.self.rest.now c.in_ok-count.count r.at c.next.new.self.at c.args.table.now s c.section.new.self.rest.now c.section.new.self.at n.0 n.2 c.in_ok-numbers.ensures
    _ s.order c.filter.result refl c.filter.ensures (λ x b p. search rules))
