use Rattle.std.proofs.Common.{Ok, Err, refl, arith}
use Rattle.tasks.specs.Spaces.{Written}
use Rattle.roster_file.specs.Writing.{assembled}
use Rattle.roster_file.proofs.Canonical.{canonical, written_one, holds_just}
use Rattle.roster_file.proofs.Spaces.{put_front}
use Rattle.roster_file.proofs.write.write.Goals as goal

pub returns-then-space-needed : goal.returns-then-space-needed
returns-then-space-needed c =
    let t = c.args.standing.now.table in
    let order = c.args.standing.now.order in
    let space = c.args.space.now in
    let named = c.args.standing.now.named in
    let file = assembled t order in
    let short : Written file space space (Err (record { needed = c.file_len-needed.result })) = (c.file_len-needed.ensures, omega (arith, c.file_len-needed.ensures), refl) in
    record { written = (file, canonical t order named, short); one_file = written_one t order space space (Err (record { needed = c.file_len-needed.result })) named short; read_back = tt }

pub returns : goal.returns
returns c =
    let t = c.args.standing.now.table in
    let order = c.args.standing.now.order in
    let space = c.args.space.now in
    let after = c.put_file.new.space in
    let named = c.args.standing.now.named in
    let file = assembled t order in
    let done = put_front file space after c.put_file.result c.put_file.ensures in
    record {
      written = (file, canonical t order named, done);
      one_file = written_one t order space after (Ok c.put_file.result) named done;
      read_back = holds_just t order space after c.put_file.result named done;
    }
