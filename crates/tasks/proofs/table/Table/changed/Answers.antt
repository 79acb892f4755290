use Rattle.std.proofs.Common.{rules, ◌≡◌, length, get_or, set, None, sym, ap, ◌∙◌, subst, arith}
use lib.ListN.{length-map}
use Rattle.std.specs.Option.{option_map}
use Rattle.tasks.specs.Bounds.{Every, Times, Window, Section}
use Rattle.tasks.specs.Changes.{changed_places}
use Rattle.tasks.proofs.Changing.{turn, whole, every_changed}
use Rattle.tasks.proofs.table.Table.changed.Goals as goal

pub loop-place-preserved : goal.loop-place-preserved
loop-place-preserved g c =
    let t = c.args.self.now in
    let l = c.loop-place in
    let f = g.C.Change.changed c.args.by.now in
    let here : c.map.result ≡ option_map f (get_or l.place-items l.place-index None) = search rules in
    ap (set l.place-items l.place-index) here ∙ turn (option_map f) t.places l.place-items l.place-index None (omega (arith, t.full)) l.invariant

pub invariant_of-result : goal.invariant_of-result
invariant_of-result g c =
    let t = c.args.self.now in
    let s = c.args.by.now in
    let f = g.C.Change.changed s in
    let e : c.loop-place.place-items ≡ changed_places f t.places = whole (option_map f) t.places c.loop-place.place-items c.loop-place.place-index (omega (arith, t.full)) c.loop-place.invariant in
    record {
      full = ap length e ∙ length-map _ _ ∙ t.full;
      times = subst (Every Times) (sym e) (every_changed Times f t.places (λ n r q. (g.met.C.Change.bounded s r (t.times n r q, t.window n r q, t.section n r q)).0));
      window = subst (Every Window) (sym e) (every_changed Window f t.places (λ n r q. (g.met.C.Change.bounded s r (t.times n r q, t.window n r q, t.section n r q)).1));
      section = subst (Every Section) (sym e) (every_changed Section f t.places (λ n r q. (g.met.C.Change.bounded s r (t.times n r q, t.window n r q, t.section n r q)).2));
    }

pub returns : goal.returns
returns g c =
    let t = c.args.self.now in
    whole (option_map (g.C.Change.changed c.args.by.now)) t.places c.loop-place.place-items c.loop-place.place-index (omega (arith, t.full)) c.loop-place.invariant
