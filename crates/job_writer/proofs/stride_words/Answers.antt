use Rattle.std.proofs.Common.{◌≡◌, ℕ, length, rules}
use Rattle.std.proofs.Common.{pos, get_or, ◌<◌}
use Rattle.layout.specs.Layouts.{rank_limit}
use Rattle.job_bytes.specs.Fields.{word_of}
use Rattle.job_bytes.proofs.Signs.{mapped}
use Rattle.job_writer.proofs.stride_words.Goals as goal

pub returns : goal.returns
returns c =
    let full : length c.args.strides ≡ rank_limit = search rules in
    let each : (i : ℕ) → i < 8 → get_or c.map.result i 0 ≡ word_of (get_or c.args.strides i (pos 0)) = λ i l. let h = (c.map.ensures.items.at i (pos 0) 0 l).2 in search (rules, h) in
    mapped word_of c.args.strides c.map.result (pos 0) 0 full c.map.ensures.items.long each
