use Rattle.std.proofs.Common.{◌≡◌, ◌≤◌, ◌<◌, ◌+◌, arith, rules, ◌∙◌, ℕ, length, get_or, ℤ, ◌+ℤ◌, SFits, Fits}
use Rattle.std.specs.Int.{w64}
use lib.ListN.{set, length-set}
use Rattle.layout.specs.Layouts.{rank_limit}
use Rattle.walk.specs.Walks.{Walk, state_at, entry}
use Rattle.walk.proofs.Known.{each_row, each-unsigned}
use Rattle.walk.proofs.Sums.{sum_fits, sum_is}
use Rattle.walk.proofs.Going.{Going, There, starts, arrives, fits-at, ends, below, moved, wrapped}
use Rattle.walk.proofs.carried.Goals as goal
use Rattle.walk.proofs.carried.Goals.{At-loop-i}

module _ (c : At-loop-i) where
  shape-full : length c.args.shape ≡ rank_limit
  shape-full = search rules

  rows-full : length c.args.rows ≡ rank_limit
  rows-full = search rules

  entry-fits : (j : ℕ) → SFits w64 (entry c.args.rows c.loop-i.i j)
  entry-fits j = each_row 4 c.args.rows c.well_formed.1.1.0.0 c.well_formed.1.1.0.1.1 c.loop-i.i j

  extent-fits : Fits w64 (get_or c.args.shape c.loop-i.i 0)
  extent-fits = each-unsigned c.args.shape c.well_formed.1.0.0 c.well_formed.1.0.1.1 c.loop-i.i

  abbrev Goes : ℤ → ℤ → Type 0
  Goes sb db = Going sb db c.args.shape c.args.rows c.args.rank c.args.state.coords c.loop-i.s.coords c.loop-i.s.source_offset c.loop-i.s.dest_offset c.loop-i.i

  going : (sb db : ℤ) (k : ℕ) → Walk sb db c.args.shape c.args.rows c.args.rank → c.args.state ≡ state_at sb db c.args.shape c.args.rows c.args.rank k → Goes sb db
  going sb db k walk is = c.loop-i.invariant.going sb db walk (starts sb db c.args.shape c.args.rows c.args.rank walk shape-full rows-full c.args.state k is)

  -- at the bases that the contract has
  known : Goes c.requires.sb c.requires.db
  known = going c.requires.sb c.requires.db c.requires.k c.requires.walk c.requires.is

  here-fits : SFits w64 c.loop-i.s.source_offset × SFits w64 c.loop-i.s.dest_offset
  here-fits = fits-at c.requires.sb c.requires.db c.args.shape c.args.rows c.args.rank c.requires.walk shape-full rows-full c.loop-i.s.coords c.loop-i.invariant.full c.loop-i.s.source_offset c.loop-i.s.dest_offset known.within known.source_is known.dest-is

  module _ (hi : c.loop-i.i < c.args.rank) where
    coord-below : get_or c.loop-i.s.coords c.loop-i.i 0 < get_or c.args.shape c.loop-i.i 0
    coord-below = below c.requires.sb c.requires.db c.args.shape c.args.rows c.args.rank c.requires.walk shape-full rows-full c.args.state.coords c.loop-i.s.coords c.loop-i.s.source_offset c.loop-i.s.dest_offset c.loop-i.i known c.loop-i.invariant.full hi

    module _ (sb db : ℤ) (walk : Walk sb db c.args.shape c.args.rows c.args.rank) (go : Goes sb db) where
      module _ (lt : get_or c.loop-i.s.coords c.loop-i.i 0 + 1 < get_or c.args.shape c.loop-i.i 0) where
        on : There sb db c.args.shape c.args.rows c.args.rank c.args.state.coords (set c.loop-i.s.coords c.loop-i.i (get_or c.loop-i.s.coords c.loop-i.i 0 + 1)) (c.loop-i.s.source_offset +ℤ entry c.args.rows c.loop-i.i 0) (c.loop-i.s.dest_offset +ℤ entry c.args.rows c.loop-i.i 2)
        on = moved sb db c.args.shape c.args.rows c.args.rank walk shape-full rows-full c.args.state.coords c.loop-i.s.coords c.loop-i.s.source_offset c.loop-i.s.dest_offset c.loop-i.i go c.loop-i.invariant.full hi lt

        on-fits : SFits w64 (c.loop-i.s.source_offset +ℤ entry c.args.rows c.loop-i.i 0) × SFits w64 (c.loop-i.s.dest_offset +ℤ entry c.args.rows c.loop-i.i 2)
        on-fits = fits-at sb db c.args.shape c.args.rows c.args.rank walk shape-full rows-full _ (length-set c.loop-i.s.coords c.loop-i.i (get_or c.loop-i.s.coords c.loop-i.i 0 + 1) ∙ c.loop-i.invariant.full) _ _ on.within on.source_is on.dest-is

      module _ (le : get_or c.args.shape c.loop-i.i 0 ≤ get_or c.loop-i.s.coords c.loop-i.i 0 + 1) where
        wrap : Going sb db c.args.shape c.args.rows c.args.rank c.args.state.coords (set c.loop-i.s.coords c.loop-i.i 0) (c.loop-i.s.source_offset +ℤ entry c.args.rows c.loop-i.i 1) (c.loop-i.s.dest_offset +ℤ entry c.args.rows c.loop-i.i 3) (c.loop-i.i + 1)
        wrap = wrapped sb db c.args.shape c.args.rows c.args.rank walk shape-full rows-full c.args.state.coords c.loop-i.s.coords c.loop-i.s.source_offset c.loop-i.s.dest_offset c.loop-i.i go c.loop-i.invariant.full hi le

        wrap-fits : SFits w64 (c.loop-i.s.source_offset +ℤ entry c.args.rows c.loop-i.i 1) × SFits w64 (c.loop-i.s.dest_offset +ℤ entry c.args.rows c.loop-i.i 3)
        wrap-fits = fits-at sb db c.args.shape c.args.rows c.args.rank walk shape-full rows-full _ (length-set c.loop-i.s.coords c.loop-i.i 0 ∙ c.loop-i.invariant.full) _ _ wrap.within wrap.source_is wrap.dest-is

pub overflow_add-next : goal.overflow_add-next
overflow_add-next c =
    let h : At-loop-i = search in
    omega (arith, coord-below h c.loop-i-test.true, extent-fits h)

pub overflow_add-s : goal.overflow_add-s
overflow_add-s c =
    let h : At-loop-i = search in
    sum_fits c.loop-i.s.source_offset (entry c.args.rows c.loop-i.i 0) (here-fits h).0 (entry-fits h 0) (on-fits h c.loop-i-test.true c.requires.sb c.requires.db c.requires.walk (known h) c.if-next-shape.true).0

pub overflow_add-s-then-next-shape : goal.overflow_add-s-then-next-shape
overflow_add-s-then-next-shape c =
    let h : At-loop-i = search in
    sum_fits c.loop-i.s.dest_offset (entry c.args.rows c.loop-i.i 2) (here-fits h).1 (entry-fits h 2) (on-fits h c.loop-i-test.true c.requires.sb c.requires.db c.requires.walk (known h) c.if-next-shape.true).1

pub returns-then-next-shape : goal.returns-then-next-shape
returns-then-next-shape c = let h : At-loop-i = search in record {
  on = λ sb db k walk is.
      let go = going h sb db k walk is in
      let f = on-fits h c.loop-i-test.true sb db walk go c.if-next-shape.true in
      let es = sum_is c.loop-i.s.source_offset (entry c.args.rows c.loop-i.i 0) (here-fits h).0 (entry-fits h 0) f.0 in
      let ed = sum_is c.loop-i.s.dest_offset (entry c.args.rows c.loop-i.i 2) (here-fits h).1 (entry-fits h 2) f.1 in
      (λ ι. record { coords = set c.loop-i.s.coords c.loop-i.i (get_or c.loop-i.s.coords c.loop-i.i 0 + 1); source_offset = es ι; dest_offset = ed ι })
      ∙ arrives sb db c.args.shape c.args.rows c.args.rank walk (shape-full h) (rows-full h) c.args.state k is _ _ _ (on h c.loop-i-test.true sb db walk go c.if-next-shape.true);
}

pub overflow_add-s-in-loop-i : goal.overflow_add-s-in-loop-i
overflow_add-s-in-loop-i c =
    let h : At-loop-i = search in
    sum_fits c.loop-i.s.source_offset (entry c.args.rows c.loop-i.i 1) (here-fits h).0 (entry-fits h 1) (wrap-fits h c.loop-i-test.true c.requires.sb c.requires.db c.requires.walk (known h) c.if-next-shape.false).0

pub overflow_add-s-in-loop-i-2 : goal.overflow_add-s-in-loop-i-2
overflow_add-s-in-loop-i-2 c =
    let h : At-loop-i = search in
    sum_fits c.loop-i.s.dest_offset (entry c.args.rows c.loop-i.i 3) (here-fits h).1 (entry-fits h 3) (wrap-fits h c.loop-i-test.true c.requires.sb c.requires.db c.requires.walk (known h) c.if-next-shape.false).1

pub loop-i-preserved : goal.loop-i-preserved
loop-i-preserved c = let h : At-loop-i = search in record {
  full = length-set c.loop-i.s.coords c.loop-i.i 0 ∙ c.loop-i.invariant.full;
  going = λ sb db walk g.
      let go = c.loop-i.invariant.going sb db walk g in
      let f = wrap-fits h c.loop-i-test.true sb db walk go c.if-next-shape.false in
      let w = wrap h c.loop-i-test.true sb db walk go c.if-next-shape.false in
      record {
        within = w.within;
        source_is = sum_is c.loop-i.s.source_offset (entry c.args.rows c.loop-i.i 1) (here-fits h).0 (entry-fits h 1) f.0 ∙ w.source_is;
        dest-is = sum_is c.loop-i.s.dest_offset (entry c.args.rows c.loop-i.i 3) (here-fits h).1 (entry-fits h 3) f.1 ∙ w.dest-is;
        rest = w.rest;
      };
}

pub returns : goal.returns
returns c = let h : At-loop-i = search in record {
  on = λ sb db k walk is.
      arrives sb db c.args.shape c.args.rows c.args.rank walk (shape-full h) (rows-full h) c.args.state k is _ _ _
      (ends sb db c.args.shape c.args.rows c.args.rank walk (shape-full h) (rows-full h) c.args.state.coords c.loop-i.s.coords c.loop-i.s.source_offset c.loop-i.s.dest_offset c.loop-i.i (going h sb db k walk is) c.loop-i.invariant.full c.loop-i-test.false);
}
