use Rattle.std.proofs.Common.{ap, ◌∙◌, ◌-◌, List, ℕ, length, replicate}
use Rattle.std.specs.Int.{w64, from_be_bytes}
use borrow.Rule.Slice.PartMut.{put_mid}
use Rattle.job_bytes.proofs.Bytes.{word_of_field}
use Rattle.job_bytes.proofs.number_of.Goals as goal

pub returns : goal.returns
returns c =
    let n = length c.args.field.now in
    c.from_be_bytes.ensures ∙ ap (λ (f : List ℕ). from_be_bytes w64 (put_mid (8 - n) (8 - (8 - n)) (replicate 8 0) f)) c.copy_from_slice.ensures.after ∙ word_of_field c.args.field.now c.requires
