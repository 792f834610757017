use Rattle.std.proofs.Common.{◌-◌, drop, arith}
use Rattle.std.proofs.lemmas.List.{length-drop}
use Rattle.std.proofs.lemmas.Result.{err_from_is_err_and}
use Rattle.text_words.proofs.LineParts.{none_kept, are_words, no_gap_left, no_feed_left, kept_more, line_kept, line_ends}
use Rattle.text_words.proofs.lines.cut_line.Goals as goal

pub returns-in_default-clause-end : goal.returns-in_default-clause-end
returns-in_default-clause-end c =
    let v = c.words.invariant in
    no_feed_left c.args.text.now c.args.from c.words.start _ v.low c.in_default.ensures.ends v.kept

pub returns-in_default-clause-none : goal.returns-in_default-clause-none
returns-in_default-clause-none c = λ e.
    let v = c.words.invariant in
    let text = c.args.text.now in
    let from = c.args.from in (
      c.words.start - from,
      no_gap_left text from c.words.start v.low c.in_default.ensures.ends,
      are_words (drop from text) (c.words.start - from) _ (omega (arith, v.low, v.high, length-drop from text)) v.kept,
    )

pub returns-in_err-keep_part-clause-left : goal.returns-in_err-keep_part-clause-left
returns-in_err-keep_part-clause-left c =
    let v = c.words.invariant in
    let text = c.args.text.now in
    let from = c.args.from in
    let p = err_from_is_err_and c.from_residual.result c.from_residual.ensures.1 in
    rw (p.1, c.in_err-keep_part.ensures.left) (
      c.words.start - from,
      are_words (drop from text) (c.words.start - from) _ (omega (arith, v.low, v.high, length-drop from text)) v.kept,
    )

pub returns-then-text-end-eq10-clause-end : goal.returns-then-text-end-eq10-clause-end
returns-then-text-end-eq10-clause-end c =
    let e = c.first_end-end.ensures in
    let v = c.words.invariant in
    let text = c.args.text.now in
    let end = c.first_end-end.result.0 in
    (omega (arith, v.low, e.from), e.within, line_ends text c.args.from c.words.start end _ _ v.low e.from e.within e.none c.in_ok-keep_part.ensures.part v.kept c.if-text-end-eq10.true)

pub returns-then-text-end-eq10-clause-words : goal.returns-then-text-end-eq10-clause-words
returns-then-text-end-eq10-clause-words c =
    let e = c.first_end-end.ensures in
    let v = c.words.invariant in
    line_kept c.args.text.now c.args.from c.words.start c.first_end-end.result.0 _ _ v.low e.from e.within e.none c.in_ok-keep_part.ensures.part v.kept

pub words-init : goal.words-init
words-init c = record {
  low = omega arith;
  high = c.requires.from;
  ends = c.requires.ends;
  kept = rw c.clear.ensures.items (none_kept (drop c.args.from c.args.text.now) (c.args.from - c.args.from) (omega arith));
}

pub words-preserved : goal.words-preserved
words-preserved c =
    let e = c.first_end-end.ensures in
    let v = c.words.invariant in
    record {
      low = omega (arith, v.low, e.from);
      high = omega (arith, e.within);
      ends = e.ends;
      kept = kept_more c.args.text.now c.args.from c.words.start c.first_end-end.result.0 _ _ v.low e.from e.within e.none c.in_ok-keep_part.ensures.part v.kept e.end c.if-text-end-eq10.false;
    }
