use mathlib.Core.Path.{◌≡◌, refl, sym, ap, ◌∙◌}
use lib.ListN.{length}
use lib.Ieee.{Float, nan}
use borrow.Author.Tests.{not-true, not-false}
use Rattle.layout.specs.Answers.{is_done, Answer}
use Rattle.rules.specs.Rules.{rule_f64}
use Rattle.calls.specs.Calls.{view_with, ScatterCall}
use Rattle.scatter_checks.specs.Refusals.{scatter_from}
use Rattle.scatter_lists.specs.Lists.{by_lists}
use borrow.Author.Rules.{rules}
use Rattle.integer.specs.Z.{back}
use Rattle.scatter_move.proofs.Parts.{movable}
use Rattle.strided.specs.Words.{words, bare}
use Rattle.strided.specs.Named.{rule_refusal, rule_f64_of, rules_f64}
use Rattle.strided.proofs.Calls.{scatter-handed, named-refused, named-listed}
use Rattle.strided.proofs.strided_raw_scatter_f64.Statement.{statement}
use Rattle.strided.proofs.strided_raw_scatter_f64.Tie as tie

module _ (k : tie.After-is_done) where
  abbrev start : tie.Start
  start = search

  -- whether the rule is listed
  asked : is_done (rule_refusal rules_f64 start.args.rule) ≡ k.is_done.result
  asked = ap is_done (sym k.check_rule-listed.ensures) ∙ sym k.is_done.ensures

-- the call
module _ (s : tie.Start) where
  abbrev call : ScatterCall Float
  call = by_lists (scatter_from s.args.index_extents.now s.args.index_strides.now s.args.updates_extents.now s.args.updates_strides.now s.args.dest_extents.now s.args.dest_strides.now s.args.update_window_dims.now s.args.inserted_window_dims.now s.args.scatter_dims_to_operand_dims.now s.args.index_vector_dim) (view_with s.args.index_view_extents.now s.args.index_view_strides.now s.args.index_offset) (view_with s.args.updates_view_extents.now s.args.updates_view_strides.now s.args.updates_offset) (view_with s.args.dest_view_extents.now s.args.dest_view_strides.now s.args.dest_offset) s.args.starts.now s.args.updates.now

returns : tie.Need-returns-then-not-is_done
returns c =
    let k = c in
    let s : tie.Start = search in
    named-refused rules_f64 s.args.rule ((call s).answer (length s.args.dest.now)) _ _ s.args.dest.now _ _ (asked (search) ∙ c.if-not-is_done.true) refl (c.bare_words.ensures ∙ ap (λ (x : Answer). words (bare x)) k.check_rule-listed.ensures)

move-f64-requires : tie.Need-move_f64-r-requires
move-f64-requires c κs =
    let p = c in
    let s : tie.Start = search in
    movable (simp (back s.ranges.index_offset, back s.ranges.updates_offset, back s.ranges.dest_offset) at p.prepare_views-p.ensures)

same_length : tie.Need-shape_of-dest
same_length c = search rules

returns-2 : tie.Need-returns
returns-2 c =
    let m = c in
    let o = m in
    let p = o in
    let i = p in
    let s : tie.Start = search in
    named-listed rules_f64 s.args.rule ((call s).answer (length s.args.dest.now)) _ _ s.args.dest.now _ _ (asked (search) ∙ i.if-not-is_done.false)
    (rw (← o.rule_f64_of-by.ensures) (scatter-handed nan (rule_f64 o.rule_f64_of-by.result) (call s) _ s.args.dest.now _ _ _ (simp (back s.ranges.index_offset, back s.ranges.updates_offset, back s.ranges.dest_offset) at p.prepare_views-p.ensures) m.move_f64-r.ensures c.words_of.ensures))

pub strided_raw_scatter_f64_spec : {M : Type 1} → statement M
strided_raw_scatter_f64_spec =
    tie.close
    (tie.spec
    (λ c κs. tt)
    (λ c κs. tt)
    (λ c κs. tt)
    returns
    (λ c κs. tt)
    (λ c κs. tt)
    move-f64-requires
    (λ c κs. tt)
    same_length
    returns-2)
