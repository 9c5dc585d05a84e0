use Rattle.std.proofs.Common.{◌≡◌, ◌∙◌, sym, ap, length, arith}
use lib.Seq.{paste, paste-zero}
use Rattle.rules.proofs.Each.{pasted, pasted-over}
use Rattle.rules.proofs.copy_each.Goals as goal

pub loop-i-init : goal.loop-i-init
loop-i-init g c = sym (paste-zero c.args.to.now 0 c.args.from.now)

pub loop-i-preserved : goal.loop-i-preserved
loop-i-preserved g c = pasted c.args.from.now c.args.to.now c.loop-i.to c.loop-i.i _ (omega arith) (omega arith) c.loop-i.invariant c.index-from-i.is

pub returns : goal.returns
returns g c =
    let n : c.loop-i.i ≡ length c.args.to.now = omega arith in
    c.loop-i.invariant ∙ ap (paste c.args.to.now 0 c.args.from.now) n ∙ pasted-over c.args.from.now c.args.to.now c.requires
