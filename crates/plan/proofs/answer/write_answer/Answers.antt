-- The text is the listing or the refusal of the file, the only one that it has. Assumes nothing.
use Rattle.std.proofs.Common.{Ok, Err, arith}
use Rattle.std.proofs.lemmas.Result.{err_from_is_err_and}
use Rattle.plan.specs.declared.answer.Answer.TheVariants.{Listed, Refused}
use Rattle.plan.proofs.Single.{listing_told, no_listing_told}
use Rattle.plan.proofs.answer.write_answer.Goals as goal

pub returns-in_err-write_listing-in-Ok : goal.returns-in_err-write_listing-in-Ok
returns-in_err-write_listing-in-Ok c =
    let s = c.in-Ok.standing in
    let f = c.in_err-write_listing-in-Ok.field-0.0 in
    let p = err_from_is_err_and c.from_residual.result c.from_residual.ensures.1 in
    let k = listing_told c.args.file.now c.args.space.now c.write_listing.new.space (Err f) s.table s.order c.lines.result c.in-Ok.ensures.outcome c.in-Ok.ensures.only c.lines.ensures c.in_err-write_listing-in-Ok.ensures.text in
    rw (p.1, p.2) (record { text = k.text; listing = k.listing; refusal = k.refusal; fits = tt })

pub returns-in_ok-write_listing-in-Ok : goal.returns-in_ok-write_listing-in-Ok
returns-in_ok-write_listing-in-Ok c =
    let s = c.in-Ok.standing in
    let n = c.in_ok-write_listing-in-Ok.field-0 in
    let w = c.in_ok-write_listing-in-Ok.ensures.text in
    let k = listing_told c.args.file.now c.args.space.now c.write_listing.new.space (Ok (Listed n)) s.table s.order c.lines.result c.in-Ok.ensures.outcome c.in-Ok.ensures.only c.lines.ensures w in
    record { text = k.text; listing = k.listing; refusal = k.refusal; fits = omega (arith, w.0, w.1) }

pub returns-in_err-write_refusal-in-Err : goal.returns-in_err-write_refusal-in-Err
returns-in_err-write_refusal-in-Err c =
    let f = c.in_err-write_refusal-in-Err.field-0.0 in
    let p = err_from_is_err_and c.from_residual-in_err-write_refusal-in-Err.result c.from_residual-in_err-write_refusal-in-Err.ensures.1 in
    let w = rw c.innermost.ensures at c.in_err-write_refusal-in-Err.ensures in
    let k = no_listing_told c.args.file.now c.args.space.now c.write_refusal.new.space (Err f) c.in-Err.fault c.in-Err.ensures.outcome c.in-Err.ensures.only w in
    rw (p.1, p.2) (record { text = k.text; listing = k.listing; refusal = k.refusal; fits = tt })

pub returns-in_ok-write_refusal-in-Err : goal.returns-in_ok-write_refusal-in-Err
returns-in_ok-write_refusal-in-Err c =
    let n = c.in_ok-write_refusal-in-Err.field-0 in
    let w = rw c.innermost.ensures at c.in_ok-write_refusal-in-Err.ensures in
    let k = no_listing_told c.args.file.now c.args.space.now c.write_refusal.new.space (Ok (Refused n)) c.in-Err.fault c.in-Err.ensures.outcome c.in-Err.ensures.only w in
    record { text = k.text; listing = k.listing; refusal = k.refusal; fits = omega (arith, w.0, w.1) }
