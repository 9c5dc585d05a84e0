use Rattle.std.specs.Prelude.{◌≡◌, ℕ, ◌-◌, true, min, ℤ, pos}
use Rattle.std.proofs.Common.{sym, ap, ◌∙◌, arith, true≢false, ltb-true, ltb-false}
use Rattle.integer.specs.Z.{up, dn, zfacts, known, only, ≡-from}
use Rattle.indexing.specs.Start.{clamp}
use Rattle.indexing.proofs.Inside.{clamp-is}
use Rattle.indexing.specs.Moved.{moved-by}
use Rattle.layout.proofs.clamp_window_start.Goals as goal

by_parts : (r : ℕ) (start : ℤ) (extent window : ℕ) → r ≡ min (up start) (extent - window) → pos r ≡ clamp start extent window
by_parts r start extent window e = ap pos e ∙ sym (clamp-is start extent window)

pub returns-then-start-lt0 : goal.returns-then-start-lt0
returns-then-start-lt0 c =
    let p : pos 0 ≡ clamp c.args.start c.args.extent c.args.window = by_parts 0 c.args.start c.args.extent c.args.window (omega (arith, zfacts, known c.ranges.start, only c.args.start)) in (
      p,
      moved-by c.args.start c.args.extent c.args.window (pos 0) true p
          (λ _ q. let u = ap up q in let d = ap dn q in omega (arith, zfacts, known c.ranges.start, only c.args.start))
          (λ h. absurd (true≢false h)),
    )

pub returns : goal.returns
returns c =
    let e = c.saturating_sub-last.ensures in
    let p : pos c.min.result ≡ clamp c.args.start c.args.extent c.args.window = by_parts c.min.result c.args.start c.args.extent c.args.window (omega (arith, zfacts, known c.ranges.start, only c.args.start)) in (
      p,
      moved-by c.args.start c.args.extent c.args.window (pos c.min.result) _ p
          (λ h q. let l = ltb-true _ _ h in let u = ap up q in let d = ap dn q in omega (arith, zfacts, known c.ranges.start, only c.args.start))
          (λ h. let l = ltb-false _ _ h in ≡-from _ c.args.start (omega (arith, zfacts, known c.ranges.start, only c.args.start))),
    )
