use Rattle.std.proofs.Common.{sym, ◌∙◌, subst, IfSome}
use Rattle.queue.specs.Queues.{entries}
use Rattle.queue.specs.Ranks.{First}
use Rattle.queue.proofs.Laws.{front_is}
use Rattle.queue.proofs.Ordered.{ordered, leads}
use Rattle.queue.proofs.queue.Queue.first.Goals as goal

pub returns-clause-first : goal.returns-clause-first
returns-clause-first g c =
    let may = g.E.Rank.precedence in
    let q = c.args.self.now in
    let is = c.copied.ensures ∙ c.first.ensures.value ∙ front_is (entries q) in
    subst (λ r. IfSome r (λ x. First may x (entries q))) (sym is) (leads may (ordered may g.met.E.Rank.total g.met.E.Rank.transitive) (entries q) q.arranged)
