use Rattle.std.proofs.Common.{arith, ◌+◌, ◌<◌, length}
use Rattle.text_words.proofs.Lanes.{none_among, none_then, one_end}
use Rattle.text_words.proofs.ends.more_ends.Goals as goal

pub loop-at-preserved : goal.loop-at-preserved
loop-at-preserved c =
    let text = c.args.text.now in
    let at = c.loop-at.at in
    let v = c.loop-at.invariant in
    record {
      low = omega (arith, v.low);
      high = omega (arith, v.high, c.loop-at-test.true);
      none = none_then text c.args.from at (at + 32) v.none (none_among text at c.ends_among-bits.result c.if-bits-ne0.false c.ends_among-bits.ensures);
    }

pub returns : goal.returns
returns c =
    let text = c.args.text.now in
    let e = c.near_end-end.ensures in
    let v = c.loop-at.invariant in
    let high : c.near_end-end.result < length text = omega (arith, e.within, c.if-end-text.false) in
    record {
      ends = (λ same. omega (arith, same), one_end text c.args.from c.near_end-end.result (omega (arith, e.from, v.low)) high (none_then text c.args.from c.loop-at.at c.near_end-end.result v.none e.none) (e.end high));
    }
