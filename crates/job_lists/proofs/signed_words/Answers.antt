use Rattle.std.proofs.Common.{◌≡◌, ℕ, pos, ◌<◌, length, get_or, rules}
use Rattle.job_bytes.specs.Fields.{signed_of}
use Rattle.job_bytes.proofs.Signs.{mapped}
use Rattle.job_lists.proofs.signed_words.Goals as goal

pub returns : goal.returns
returns c =
    let words : length c.args.words ≡ 16 = search rules in
    let each : (i : ℕ) → i < 16 → get_or c.map.result i (pos 0) ≡ signed_of (get_or c.args.words i 0) = λ i l. let h = (c.map.ensures.items.at i 0 (pos 0) l).2 in search (rules, h) in
    mapped signed_of c.args.words c.map.result 0 (pos 0) words c.map.ensures.items.long each
