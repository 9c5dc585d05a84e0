use Rattle.std.proofs.Common.{ap, ◌∙◌, List, ℕ, ◌-◌}
use Rattle.std.specs.List.{between}
use Rattle.job_bytes.proofs.Putting.{put-part}
use Rattle.job_bytes.proofs.put_number.Goals as goal

pub returns : goal.returns
returns c =
    let e = c.copy_from_slice.ensures.after ∙ ap (λ (l : List ℕ). between (8 - c.args.width) 8 l) c.to_be_bytes-word.ensures in
    put-part c.args.out.now c.args.at c.args.width c.args.value _ c.requires.0 c.requires.1 e
