use Rattle.dimension_core.specs.Setup.{setting}
use Rattle.move_judge.proofs.Inside.{one_known, fits_changed, reverse_inside}
use Rattle.move_judge.proofs.Places.{at_most_as, as_long, first_before}
use Rattle.move_judge.proofs.Replaced.{turned_round}
use Rattle.move_judge.proofs.allowed.reverse_fits.Goals as goal

pub replaced_fits-requires-clause-known : goal.replaced_fits-requires-clause-known
replaced_fits-requires-clause-known g c =
    let s = setting c.args.setup.now in
    let law = c.requires.laws in
    let f = (law.possible.reverse s.customers c.args.view.now.routes c.args.v c.args.first c.args.last).0 c.requires.possible in
    one_known law s c.args.view.now _ _ _ _ _ c.requires.view c.requires.possible
    (reverse_inside law s.customers c.args.view.now.routes c.args.v c.args.first c.args.last c.requires.possible)
    (turned_round c.args.first c.args.last _ _ f.low f.order c.customers-route.ensures)

pub returns : goal.returns
returns g c =
    let s = setting c.args.setup.now in
    let law = c.requires.laws in
    let f = (law.possible.reverse s.customers c.args.view.now.routes c.args.v c.args.first c.args.last).0 c.requires.possible in
    fits_changed law s c.args.view.now.routes _ _ _ _ _ _
    (reverse_inside law s.customers c.args.view.now.routes c.args.v c.args.first c.args.last c.requires.possible) c.replaced_fits.ensures
    (turned_round c.args.first c.args.last _ _ f.low f.order c.customers-route.ensures)

pub customers-route-requires-clause-low : goal.customers-route-requires-clause-low
customers-route-requires-clause-low g c =
    let f = (c.requires.laws.possible.reverse (setting c.args.setup.now).customers c.args.view.now.routes c.args.v c.args.first c.args.last).0 c.requires.possible in
    f.vehicle.low

pub customers-route-requires-clause-high : goal.customers-route-requires-clause-high
customers-route-requires-clause-high g c =
    let f = (c.requires.laws.possible.reverse (setting c.args.setup.now).customers c.args.view.now.routes c.args.v c.args.first c.args.last).0 c.requires.possible in
    f.vehicle.high

pub overflow_sub-begin : goal.overflow_sub-begin
overflow_sub-begin g c =
    let f = (c.requires.laws.possible.reverse (setting c.args.setup.now).customers c.args.view.now.routes c.args.v c.args.first c.args.last).0 c.requires.possible in
    f.low

pub replaced_fits-requires-clause-low : goal.replaced_fits-requires-clause-low
replaced_fits-requires-clause-low g c =
    let f = (c.requires.laws.possible.reverse (setting c.args.setup.now).customers c.args.view.now.routes c.args.v c.args.first c.args.last).0 c.requires.possible in
    f.vehicle.low

pub replaced_fits-requires-clause-high : goal.replaced_fits-requires-clause-high
replaced_fits-requires-clause-high g c =
    let f = (c.requires.laws.possible.reverse (setting c.args.setup.now).customers c.args.view.now.routes c.args.v c.args.first c.args.last).0 c.requires.possible in
    at_most_as _ _ _ c.requires.view.vehicles f.vehicle.high

pub replaced_fits-requires-clause-begin : goal.replaced_fits-requires-clause-begin
replaced_fits-requires-clause-begin g c =
    let f = (c.requires.laws.possible.reverse (setting c.args.setup.now).customers c.args.view.now.routes c.args.v c.args.first c.args.last).0 c.requires.possible in
    first_before _ _ _ f.order (as_long _ _ _ c.customers-route.ensures f.high)

pub replaced_fits-requires-clause-end : goal.replaced_fits-requires-clause-end
replaced_fits-requires-clause-end g c =
    let f = (c.requires.laws.possible.reverse (setting c.args.setup.now).customers c.args.view.now.routes c.args.v c.args.first c.args.last).0 c.requires.possible in
    as_long _ _ _ c.customers-route.ensures f.high
