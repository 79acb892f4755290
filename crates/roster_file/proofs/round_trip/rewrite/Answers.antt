use Rattle.std.proofs.Common.{Err, ap, ◌∙◌}
use Rattle.std.proofs.lemmas.Result.{err_from_is_err_and}
use Rattle.roster_file.proofs.RoundTrips.{file_refused, unordered, written_again, space_short}
use Rattle.roster_file.proofs.round_trip.rewrite.Goals as goal

pub returns-in_err-read : goal.returns-in_err-read
returns-in_err-read c =
    let r = c.from_residual.result in
    let p = err_from_is_err_and r c.from_residual.ensures.1 in
    let kept = file_refused c.args.file.now c.args.space.now r c.in_err-read.field-0.0 (p.1 ∙ ap Err p.2) c.in_err-read.ensures.outcome in
    record { rewritten = kept.rewritten; copied = kept.copied }

pub returns-in_default : goal.returns-in_default
returns-in_default c =
    let kept = unordered c.args.file.now c.args.space.now c.read.new.table c.read.new.order c.in_ok-read.ensures.outcome c.in_default.ensures in
    record { rewritten = kept.rewritten; copied = kept.copied }

pub returns-in_err-written : goal.returns-in_err-written
returns-in_err-written c =
    let file = c.args.file.now in
    let s = c.in-Some.standing in
    let r = c.from_residual-in_err-written.result in
    let p = err_from_is_err_and r c.from_residual-in_err-written.ensures.1 in
    let made = c.in-Some.ensures in
    let w = c.in_err-written.ensures in
    let kept = space_short file c.args.space.now c.write.new.space s.table s.order r c.in_err-written.field-0.0 (p.1 ∙ ap Err p.2) (rw (made.0, made.1) c.in_ok-read.ensures.outcome) w.written w.one_file in
    record { rewritten = kept.rewritten; copied = kept.copied }

pub returns : goal.returns
returns c =
    let file = c.args.file.now in
    let s = c.in-Some.standing in
    let made = c.in-Some.ensures in
    let w = c.in_ok-written.ensures in
    let kept = written_again file c.args.space.now c.write.new.space s.table s.order c.in_ok-written.written (rw (made.0, made.1) c.in_ok-read.ensures.outcome) w.written w.one_file in
    record { rewritten = kept.rewritten; copied = kept.copied }
