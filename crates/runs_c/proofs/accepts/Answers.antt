use Rattle.std.proofs.Common.{sym, ap, ◌∙◌, take, ℤ}
use borrow.Author.Rules.{rules}
use Rattle.integer.specs.Z.{back}
use Rattle.runs_c.specs.Bench.{covers}
use Rattle.runs_c.proofs.Accepted.{none-no, rank-no, zero-no, few-no, source-no, source-yes}
use Rattle.runs_c.proofs.accepts.Goals as goal

pub returns-then-rank-eq0 : goal.returns-then-rank-eq0
returns-then-rank-eq0 c =
    record {
      is = none-no c.args.rank c.args.extents c.args.ss c.args.ds c.args.s c.args.d c.args.sn c.args.dn c.if-rank-eq0.true;
      shape-long = search rules;
      source-long = search rules;
      dest-long = search rules;
    }

pub returns-then-rank-gt-RAW_FUSED_RANK_LIMIT : goal.returns-then-rank-gt-RAW_FUSED_RANK_LIMIT
returns-then-rank-gt-RAW_FUSED_RANK_LIMIT c =
    record {
      is = rank-no c.args.rank c.args.extents c.args.ss c.args.ds c.args.s c.args.d c.args.sn c.args.dn c.if-rank-eq0.false c.if-rank-gt-RAW_FUSED_RANK_LIMIT.true;
      shape-long = search rules;
      source-long = search rules;
      dest-long = search rules;
    }

pub returns-then-has_zero : goal.returns-then-has_zero
returns-then-has_zero c =
    record {
      is = zero-no c.args.rank c.args.extents c.args.ss c.args.ds c.args.s c.args.d c.args.sn c.args.dn c.if-rank-eq0.false c.if-rank-gt-RAW_FUSED_RANK_LIMIT.false (sym c.has_zero.ensures ∙ c.if-has_zero.true);
      shape-long = search rules;
      source-long = search rules;
      dest-long = search rules;
    }

pub returns-then-not-all_few : goal.returns-then-not-all_few
returns-then-not-all_few c =
    record {
      is = few-no c.args.rank c.args.extents c.args.ss c.args.ds c.args.s c.args.d c.args.sn c.args.dn c.if-rank-eq0.false c.if-rank-gt-RAW_FUSED_RANK_LIMIT.false (sym c.has_zero.ensures ∙ c.if-has_zero.false) (sym c.all_few.ensures ∙ c.if-not-all_few.true);
      shape-long = search rules;
      source-long = search rules;
      dest-long = search rules;
    }

pub returns-then-not-inside : goal.returns-then-not-inside
returns-then-not-inside c =
    let source = sym (c.inside.ensures ∙ ap (λ (z : ℤ). covers (take c.args.rank c.args.extents) (take c.args.rank c.args.ss) z c.args.sn) (back c.ranges.s)) in
    record {
      is = source-no c.args.rank c.args.extents c.args.ss c.args.ds c.args.s c.args.d c.args.sn c.args.dn c.if-rank-eq0.false c.if-rank-gt-RAW_FUSED_RANK_LIMIT.false (sym c.has_zero.ensures ∙ c.if-has_zero.false) (sym c.all_few.ensures ∙ c.if-not-all_few.false) (source ∙ c.if-not-inside.true);
      shape-long = search rules;
      source-long = search rules;
      dest-long = search rules;
    }

pub returns : goal.returns
returns c =
    let source = sym (c.inside.ensures ∙ ap (λ (z : ℤ). covers (take c.args.rank c.args.extents) (take c.args.rank c.args.ss) z c.args.sn) (back c.ranges.s)) in
    record {
      is = c.inside-2.ensures
          ∙ ap (λ (z : ℤ). covers (take c.args.rank c.args.extents) (take c.args.rank c.args.ds) z c.args.dn) (back c.ranges.d)
          ∙ source-yes c.args.rank c.args.extents c.args.ss c.args.ds c.args.s c.args.d c.args.sn c.args.dn c.if-rank-eq0.false c.if-rank-gt-RAW_FUSED_RANK_LIMIT.false (sym c.has_zero.ensures ∙ c.if-has_zero.false) (sym c.all_few.ensures ∙ c.if-not-all_few.false) (source ∙ c.if-not-inside.false);
      shape-long = search rules;
      source-long = search rules;
      dest-long = search rules;
    }
