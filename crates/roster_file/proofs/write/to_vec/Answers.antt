use Rattle.std.proofs.Common.{sym, ◌∙◌, subst}
use Rattle.std.proofs.lemmas.List.{take_at}
use Rattle.roster_file.specs.Layout.{Canonical}
use Rattle.roster_file.specs.Writing.{assembled}
use Rattle.roster_file.proofs.Canonical.{canonical, canonical_one}
use Rattle.roster_file.proofs.Spaces.{put_all}
use Rattle.roster_file.proofs.write.to_vec.Goals as goal

pub returns : goal.returns
returns c =
    let s = c.args.standing.now in
    let t = s.table in
    let order = s.order in
    let file = assembled t order in
    let long = c.as_mut_slice.ensures.len in
    let all = put_all file c.as_mut_slice.result.now c.put_file.new.space c.put_file.result c.put_file.ensures (long ∙ c.in_ok-file.ensures.len ∙ c.file_len.ensures) in
    let bytes = take_at c.put_file.new.space _ c.in_ok-file.file.len (c.put_file.auto.space ∙ long) ∙ all in
    record { canonical = subst (λ xs. Canonical xs t order) (sym bytes) (canonical t order s.named); one_file = λ other k. bytes ∙ canonical_one file other t order (canonical t order s.named) k }
