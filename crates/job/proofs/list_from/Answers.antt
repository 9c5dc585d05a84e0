use Rattle.std.proofs.Common.{ap, ap₂, ◌≡◌, List, ℕ, length, drop, replicate, ◌++◌, min, arith}
use Rattle.std.proofs.lemmas.List.{drop-replicate}
use Rattle.layout.proofs.Fill.{filled, fill_done}
use Rattle.layout.specs.Layouts.{padded}
use Rattle.job_bytes.specs.Version.{list_limit}
use Rattle.job.proofs.list_from.Goals as goal

pub returns : goal.returns
returns c =
    let xs = c.args.list.now in
    let n = c.min-n.result in
    let m : n ≡ min list_limit (length xs) = omega (arith, c.min-n.ensures) in
    let e : c.copy_from_slice.new.self ++ drop n (replicate list_limit 0) ≡ filled list_limit 0 xs n = ap₂ ◌++◌ c.copy_from_slice.ensures.after (drop-replicate n list_limit 0) in
    let p : c.copy_from_slice.new.self ++ drop n (replicate list_limit 0) ≡ padded list_limit 0 xs = fill_done list_limit 0 xs _ n m e in
    ap (λ (l : List ℕ). record { count = length xs; entries = l }) p
