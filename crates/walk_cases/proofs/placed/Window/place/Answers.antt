use Rattle.std.specs.Prelude.{Ok}
use Rattle.std.proofs.Common.{rules, arith, ◌≡◌, ◌∙◌, refl, sym, ap, ap₂, true, List, ℕ, ◌≤◌, length, take, length-take, ℤ, w64, SFits, to_z, of_z}
use Rattle.integer.specs.Z.{back}
use Rattle.layout.specs.Laws.{some-cells}
use Rattle.layout.specs.Layouts.{rank_limit}
use Rattle.replay.specs.declared.CompiledReplay.{CompiledReplay}
use Rattle.walk.specs.Walks.{covers_of}
use Rattle.walk.specs.Walking.{Ready, Walking, walking, spans-cover}
use Rattle.walk_cases.proofs.placed.Window.place.Goals as goal

-- what the tests have shown by the time that the shape and the rows are made
known : (c : goal.After-rows_of-rows) → Walking (take (length c.args.self.now.extents.now) c.padded_extents-extents.result) (take (length c.args.self.now.extents.now) c.padded_strides-sources.result) (take (length c.args.self.now.extents.now) c.padded_strides-dests.result) (to_z w64 (of_z w64 c.args.source_base)) (to_z w64 (of_z w64 c.args.dest_base)) c.compile_window_replay-made.result.replay.extents c.rows_of-rows.result c.compile_window_replay-made.result.replay.rank
known c =
    let ds : List ℕ = take (length c.args.self.now.extents.now) c.padded_extents-extents.result in
    let ss : List ℤ = take (length c.args.self.now.extents.now) c.padded_strides-sources.result in
    let ts : List ℤ = take (length c.args.self.now.extents.now) c.padded_strides-dests.result in
    let sb : ℤ = to_z w64 (of_z w64 c.args.source_base) in
    let db : ℤ = to_z w64 (of_z w64 c.args.dest_base) in
    let r : CompiledReplay = c.compile_window_replay-made.result in
    let la : length c.padded_extents-extents.result ≡ rank_limit = search rules in
    let lb : length c.padded_strides-sources.result ≡ rank_limit = search rules in
    let ld : length c.padded_strides-dests.result ≡ rank_limit = search rules in
    let e = length-take (length c.args.self.now.extents.now) c.padded_extents-extents.result in
    let f = length-take (length c.args.self.now.extents.now) c.padded_strides-sources.result in
    let h = length-take (length c.args.self.now.extents.now) c.padded_strides-dests.result in
    let l0 : length ds ≤ rank_limit = omega (arith, e) in
    let l1 : length ss ≡ length ds = omega (arith, e, f) in
    let l2 : length ts ≡ length ds = omega (arith, e, h) in
    let f1 : SFits w64 r.replay.spans.source_low = search rules in
    let f2 : SFits w64 r.replay.spans.source_high = search rules in
    let f3 : SFits w64 r.replay.spans.dest_low = search rules in
    let f4 : SFits w64 r.replay.spans.dest_high = search rules in
    let e1 : covers_of r.replay.spans.source_low r.replay.spans.source_high sb ≡ true = sym (c.covers.ensures ∙ ap₂ (λ (x y : ℤ). covers_of x y sb) (back f1) (back f2)) ∙ c.if-not-covers.false in
    let e2 : covers_of r.replay.spans.dest_low r.replay.spans.dest_high db ≡ true = sym (c.covers-else-not-covers.ensures ∙ ap₂ (λ (x y : ℤ). covers_of x y db) (back f3) (back f4)) ∙ c.if-not-covers-2.false in
    let n : r.answer ≡ Ok tt = c.in_default.is in
    let z = sym c.has_zero.ensures ∙ c.if-has_zero.false in
    let t = spans-cover ds ss ts l0 l1 l2 r c.compile_window_replay-made.ensures n sb db e1 e2 in
    let q : Ready ds ss ts sb db = record { done = ap (λ (x : CompiledReplay). x.answer) (sym c.compile_window_replay-made.ensures) ∙ n; positive = some-cells ds z; source-reach = t.0; dest-reach = t.1 } in
    walking ds ss ts l0 l1 l2 r c.compile_window_replay-made.ensures sb db q r.replay.extents c.rows_of-rows.result refl c.rows_of-rows.ensures

pub returns : goal.returns
returns c = (known c).walk
