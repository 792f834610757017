use Rattle.dimension_core.specs.Setup.{setting}
use Rattle.move_judge.proofs.Inside.{one_known, fits_changed, swap_inside}
use Rattle.move_judge.proofs.Places.{at_most_as, as_long, before_within}
use Rattle.move_judge.proofs.Replaced.{swapped}
use Rattle.move_judge.proofs.allowed.swap_inside_fits.Goals as goal

pub replaced_fits-requires-clause-known : goal.replaced_fits-requires-clause-known
replaced_fits-requires-clause-known g c =
    let s = setting c.args.setup.now in
    let law = c.requires.laws in
    let f = (law.possible.swap s.customers c.args.view.now.routes c.args.v c.args.place c.args.v c.args.at).0 c.requires.possible in
    one_known law s c.args.view.now _ _ _ _ _ c.requires.view c.requires.possible
    (swap_inside law s.customers c.args.view.now.routes c.args.v c.args.place c.args.at c.requires.possible c.requires.order)
    (swapped c.args.place c.args.at _ _ f.place.low c.requires.order c.customers-route.ensures)

pub returns : goal.returns
returns g c =
    let s = setting c.args.setup.now in
    let law = c.requires.laws in
    let f = (law.possible.swap s.customers c.args.view.now.routes c.args.v c.args.place c.args.v c.args.at).0 c.requires.possible in
    fits_changed law s c.args.view.now.routes _ _ _ _ _ _
    (swap_inside law s.customers c.args.view.now.routes c.args.v c.args.place c.args.at c.requires.possible c.requires.order) c.replaced_fits.ensures
    (swapped c.args.place c.args.at _ _ f.place.low c.requires.order c.customers-route.ensures)

pub customers-route-requires-clause-low : goal.customers-route-requires-clause-low
customers-route-requires-clause-low g c =
    let f = (c.requires.laws.possible.swap (setting c.args.setup.now).customers c.args.view.now.routes c.args.v c.args.place c.args.v c.args.at).0 c.requires.possible in
    f.vehicle.low

pub customers-route-requires-clause-high : goal.customers-route-requires-clause-high
customers-route-requires-clause-high g c =
    let f = (c.requires.laws.possible.swap (setting c.args.setup.now).customers c.args.view.now.routes c.args.v c.args.place c.args.v c.args.at).0 c.requires.possible in
    f.vehicle.high

pub overflow_sub-by : goal.overflow_sub-by
overflow_sub-by g c =
    let f = (c.requires.laws.possible.swap (setting c.args.setup.now).customers c.args.view.now.routes c.args.v c.args.place c.args.v c.args.at).0 c.requires.possible in
    f.place.low

pub overflow_sub-by-2 : goal.overflow_sub-by-2
overflow_sub-by-2 g c =
    let f = (c.requires.laws.possible.swap (setting c.args.setup.now).customers c.args.view.now.routes c.args.v c.args.place c.args.v c.args.at).0 c.requires.possible in
    f.at.low

pub overflow_sub-by-3 : goal.overflow_sub-by-3
overflow_sub-by-3 g c =
    let f = (c.requires.laws.possible.swap (setting c.args.setup.now).customers c.args.view.now.routes c.args.v c.args.place c.args.v c.args.at).0 c.requires.possible in
    f.at.low

pub overflow_sub-by-4 : goal.overflow_sub-by-4
overflow_sub-by-4 g c =
    let f = (c.requires.laws.possible.swap (setting c.args.setup.now).customers c.args.view.now.routes c.args.v c.args.place c.args.v c.args.at).0 c.requires.possible in
    f.place.low

pub replaced_fits-requires-clause-low : goal.replaced_fits-requires-clause-low
replaced_fits-requires-clause-low g c =
    let f = (c.requires.laws.possible.swap (setting c.args.setup.now).customers c.args.view.now.routes c.args.v c.args.place c.args.v c.args.at).0 c.requires.possible in
    f.vehicle.low

pub replaced_fits-requires-clause-high : goal.replaced_fits-requires-clause-high
replaced_fits-requires-clause-high g c =
    let f = (c.requires.laws.possible.swap (setting c.args.setup.now).customers c.args.view.now.routes c.args.v c.args.place c.args.v c.args.at).0 c.requires.possible in
    at_most_as _ _ _ c.requires.view.vehicles f.vehicle.high

pub replaced_fits-requires-clause-begin : goal.replaced_fits-requires-clause-begin
replaced_fits-requires-clause-begin g c =
    let f = (c.requires.laws.possible.swap (setting c.args.setup.now).customers c.args.view.now.routes c.args.v c.args.place c.args.v c.args.at).0 c.requires.possible in
    before_within _ _ (as_long _ _ _ c.customers-route.ensures f.place.high)

pub replaced_fits-requires-clause-end : goal.replaced_fits-requires-clause-end
replaced_fits-requires-clause-end g c =
    let f = (c.requires.laws.possible.swap (setting c.args.setup.now).customers c.args.view.now.routes c.args.v c.args.place c.args.v c.args.at).0 c.requires.possible in
    as_long _ _ _ c.customers-route.ensures f.at.high
