use Rattle.route_parts.proofs.Nothing.{some_front, some_first, some_second, some_third, back_alone}
use Rattle.route_parts.proofs.fits.is_nothing.Goals as goal

pub returns-then-not-is_empty : goal.returns-then-not-is_empty
returns-then-not-is_empty c = some_front c.args.parts.now c.is_empty.result c.is_empty.ensures c.if-not-is_empty.true

pub returns-then-not-is_empty-2 : goal.returns-then-not-is_empty-2
returns-then-not-is_empty-2 c = some_first c.args.parts.now c.is_empty-2.result c.is_empty-2.ensures c.if-not-is_empty-2.true

pub returns-then-not-is_empty-3 : goal.returns-then-not-is_empty-3
returns-then-not-is_empty-3 c = some_second c.args.parts.now c.is_empty-3.result c.is_empty-3.ensures c.if-not-is_empty-3.true

pub returns-then-not-is_empty-4 : goal.returns-then-not-is_empty-4
returns-then-not-is_empty-4 c = some_third c.args.parts.now c.is_empty-4.result c.is_empty-4.ensures c.if-not-is_empty-4.true

pub returns : goal.returns
returns c =
    back_alone c.args.parts.now c.is_empty.result c.is_empty-2.result c.is_empty-3.result c.is_empty-4.result c.is_empty-5.result
    c.is_empty.ensures c.is_empty-2.ensures c.is_empty-3.ensures c.is_empty-4.ensures c.is_empty-5.ensures
    c.if-not-is_empty.false c.if-not-is_empty-2.false c.if-not-is_empty-3.false c.if-not-is_empty-4.false
