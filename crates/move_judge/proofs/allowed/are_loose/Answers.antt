use Rattle.std.proofs.Common.{below_more, refl}
use Rattle.pin_core.specs.View.{pins_of}
use Rattle.move_judge.proofs.Allowing.{not_loose, loose_one, all_loose}
use Rattle.move_judge.proofs.allowed.are_loose.Goals as goal

pub returns-then-is_pinned : goal.returns-then-is_pinned
returns-then-is_pinned c = not_loose c.requires.laws (pins_of c.args.view.now) c.args.customers.now c.loop-customer.customer-index _ _ c.loop-customer-test.true refl c.is_pinned.ensures c.if-is_pinned.true

pub loop-customer-preserved : goal.loop-customer-preserved
loop-customer-preserved c = below_more _ _ c.loop-customer.invariant (loose_one c.requires.laws (pins_of c.args.view.now) _ _ c.is_pinned.ensures c.if-is_pinned.false)

pub returns : goal.returns
returns c = all_loose c.requires.laws (pins_of c.args.view.now) c.args.customers.now _ c.loop-customer-test.false c.loop-customer.invariant
