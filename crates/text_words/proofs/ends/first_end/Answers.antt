use Rattle.text_words.proofs.Lanes.{none_before, ends_behind}
use Rattle.text_words.proofs.ends.first_end.Goals as goal

pub returns-clause-none : goal.returns-clause-none
returns-clause-none c =
    let lowest = c.lowest-bit.ensures in
    none_before c.args.text.now c.args.from c.args.known.base c.args.known.bits c.lowest-bit.result c.requires.ends lowest.set lowest.below

pub returns-clause-ends : goal.returns-clause-ends
returns-clause-ends c =
    let lowest = c.lowest-bit.ensures in
    let without = c.without-bits.ensures in
    ends_behind c.args.text.now c.args.from c.args.known.base c.args.known.bits c.lowest-bit.result c.without-bits.result c.requires.ends lowest.set lowest.below without.kept without.fewer
