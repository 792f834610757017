use Rattle.std.proofs.Common.{arith}
use Rattle.dimension_core.proofs.Extended.{after_span, after_none}
use Rattle.dimension_core.proofs.dimension.range_after.Goals as goal

pub returns-then-lo-hi-clause-span : goal.returns-then-lo-hi-clause-span
returns-then-lo-hi-clause-span c = λ t d vehicle i j e node slack cap.
    after_span t d vehicle i j c.args.way c.args.range _ c.requires.filled e (cc) (cc) c.if-lo-hi.true

pub returns-else-lo-hi-clause-span : goal.returns-else-lo-hi-clause-span
returns-else-lo-hi-clause-span c = λ t d vehicle i j e node slack cap.
    let empty = c.if-lo-hi.false in
    after_none t d vehicle i j c.args.way c.max-lo.result c.min-hi.result c.args.range e (cc) (cc) (omega arith)
