use Rattle.std.proofs.Common.{◌∙◌, sym}
use Rattle.std.proofs.lemmas.Bool.{false≢true}
use Rattle.dimension_core.specs.Setup.{setting}
use Rattle.move_judge.proofs.Between.{first_known, first_misfits, fits_changed, second_known, swap_between}
use Rattle.move_judge.proofs.Places.{at_most_as, as_long, before_within}
use Rattle.move_judge.proofs.Replaced.{exchanged}
use Rattle.move_judge.proofs.allowed.swap_fits.Goals as goal

pub replaced_fits-requires-clause-known : goal.replaced_fits-requires-clause-known
replaced_fits-requires-clause-known g c =
    let p = c.args.pair in
    let s = setting c.args.setup.now in
    let law = c.requires.laws in
    let f = (law.possible.swap s.customers c.args.view.now.routes p.v c.args.place p.w c.args.at).0 c.requires.possible in
    first_known law s c.args.view.now _ _ _ _ _ _ _ _ _ _ c.requires.view c.requires.possible
    (swap_between law s.customers c.args.view.now.routes p.v c.args.place p.w c.args.at c.requires.possible c.requires.apart)
    (exchanged c.args.place c.args.at _ _ _ _ f.place.low f.at.low c.customers-route.ensures c.customers-other.ensures)

pub replaced_fits-requires-2-clause-known : goal.replaced_fits-requires-2-clause-known
replaced_fits-requires-2-clause-known g c =
    let p = c.args.pair in
    let s = setting c.args.setup.now in
    let law = c.requires.laws in
    let f = (law.possible.swap s.customers c.args.view.now.routes p.v c.args.place p.w c.args.at).0 c.requires.possible in
    second_known law s c.args.view.now _ _ _ _ _ _ _ _ _ _ c.requires.view c.requires.possible
    (swap_between law s.customers c.args.view.now.routes p.v c.args.place p.w c.args.at c.requires.possible c.requires.apart)
    (exchanged c.args.at c.args.place _ _ _ _ f.at.low f.place.low c.customers-other.ensures c.customers-route.ensures)

pub returns-then-not-replaced_fits : goal.returns-then-not-replaced_fits
returns-then-not-replaced_fits g c =
    let p = c.args.pair in
    let s = setting c.args.setup.now in
    let law = c.requires.laws in
    let f = (law.possible.swap s.customers c.args.view.now.routes p.v c.args.place p.w c.args.at).0 c.requires.possible in
    first_misfits law s c.args.view.now.routes _ _ _ _ _ _ _ _ _ _
    (swap_between law s.customers c.args.view.now.routes p.v c.args.place p.w c.args.at c.requires.possible c.requires.apart)
    (exchanged c.args.place c.args.at _ _ _ _ f.place.low f.at.low c.customers-route.ensures c.customers-other.ensures)
    (λ all. false≢true (sym c.if-not-replaced_fits.true ∙ c.replaced_fits.ensures.1 all))

pub returns : goal.returns
returns g c =
    let p = c.args.pair in
    let s = setting c.args.setup.now in
    let law = c.requires.laws in
    let f = (law.possible.swap s.customers c.args.view.now.routes p.v c.args.place p.w c.args.at).0 c.requires.possible in
    fits_changed law s c.args.view.now.routes _ _ _ _ _ _ _ _ _ _ _ _
    (swap_between law s.customers c.args.view.now.routes p.v c.args.place p.w c.args.at c.requires.possible c.requires.apart)
    (exchanged c.args.place c.args.at _ _ _ _ f.place.low f.at.low c.customers-route.ensures c.customers-other.ensures)
    (exchanged c.args.at c.args.place _ _ _ _ f.at.low f.place.low c.customers-other.ensures c.customers-route.ensures)
    (c.replaced_fits.ensures.0 c.if-not-replaced_fits.false) c.replaced_fits-2.ensures

pub replaced_fits-requires-clause-begin : goal.replaced_fits-requires-clause-begin
replaced_fits-requires-clause-begin g c =
    let p = c.args.pair in
    let f = (c.requires.laws.possible.swap (setting c.args.setup.now).customers c.args.view.now.routes p.v c.args.place p.w c.args.at).0 c.requires.possible in
    before_within _ _ (as_long _ _ _ c.customers-route.ensures f.place.high)

pub customers-route-requires-clause-low : goal.customers-route-requires-clause-low
customers-route-requires-clause-low g c =
    let f = (c.requires.laws.possible.swap (setting c.args.setup.now).customers c.args.view.now.routes c.args.pair.v c.args.place c.args.pair.w c.args.at).0 c.requires.possible in
    f.vehicle.low

pub customers-route-requires-clause-high : goal.customers-route-requires-clause-high
customers-route-requires-clause-high g c =
    let f = (c.requires.laws.possible.swap (setting c.args.setup.now).customers c.args.view.now.routes c.args.pair.v c.args.place c.args.pair.w c.args.at).0 c.requires.possible in
    f.vehicle.high

pub customers-other-requires-clause-low : goal.customers-other-requires-clause-low
customers-other-requires-clause-low g c =
    let f = (c.requires.laws.possible.swap (setting c.args.setup.now).customers c.args.view.now.routes c.args.pair.v c.args.place c.args.pair.w c.args.at).0 c.requires.possible in
    f.other.low

pub customers-other-requires-clause-high : goal.customers-other-requires-clause-high
customers-other-requires-clause-high g c =
    let f = (c.requires.laws.possible.swap (setting c.args.setup.now).customers c.args.view.now.routes c.args.pair.v c.args.place c.args.pair.w c.args.at).0 c.requires.possible in
    f.other.high

pub overflow_sub-there : goal.overflow_sub-there
overflow_sub-there g c =
    let f = (c.requires.laws.possible.swap (setting c.args.setup.now).customers c.args.view.now.routes c.args.pair.v c.args.place c.args.pair.w c.args.at).0 c.requires.possible in
    f.place.low

pub overflow_sub-there-2 : goal.overflow_sub-there-2
overflow_sub-there-2 g c =
    let f = (c.requires.laws.possible.swap (setting c.args.setup.now).customers c.args.view.now.routes c.args.pair.v c.args.place c.args.pair.w c.args.at).0 c.requires.possible in
    f.at.low

pub replaced_fits-requires-clause-low : goal.replaced_fits-requires-clause-low
replaced_fits-requires-clause-low g c =
    let f = (c.requires.laws.possible.swap (setting c.args.setup.now).customers c.args.view.now.routes c.args.pair.v c.args.place c.args.pair.w c.args.at).0 c.requires.possible in
    f.vehicle.low

pub replaced_fits-requires-clause-high : goal.replaced_fits-requires-clause-high
replaced_fits-requires-clause-high g c =
    let f = (c.requires.laws.possible.swap (setting c.args.setup.now).customers c.args.view.now.routes c.args.pair.v c.args.place c.args.pair.w c.args.at).0 c.requires.possible in
    at_most_as _ _ _ c.requires.view.vehicles f.vehicle.high

pub replaced_fits-requires-clause-end : goal.replaced_fits-requires-clause-end
replaced_fits-requires-clause-end g c =
    let f = (c.requires.laws.possible.swap (setting c.args.setup.now).customers c.args.view.now.routes c.args.pair.v c.args.place c.args.pair.w c.args.at).0 c.requires.possible in
    as_long _ _ _ c.customers-route.ensures f.place.high

pub replaced_fits-requires-2-clause-low : goal.replaced_fits-requires-2-clause-low
replaced_fits-requires-2-clause-low g c =
    let f = (c.requires.laws.possible.swap (setting c.args.setup.now).customers c.args.view.now.routes c.args.pair.v c.args.place c.args.pair.w c.args.at).0 c.requires.possible in
    f.other.low

pub replaced_fits-requires-2-clause-high : goal.replaced_fits-requires-2-clause-high
replaced_fits-requires-2-clause-high g c =
    let f = (c.requires.laws.possible.swap (setting c.args.setup.now).customers c.args.view.now.routes c.args.pair.v c.args.place c.args.pair.w c.args.at).0 c.requires.possible in
    at_most_as _ _ _ c.requires.view.vehicles f.other.high

pub replaced_fits-requires-2-clause-begin : goal.replaced_fits-requires-2-clause-begin
replaced_fits-requires-2-clause-begin g c =
    let f = (c.requires.laws.possible.swap (setting c.args.setup.now).customers c.args.view.now.routes c.args.pair.v c.args.place c.args.pair.w c.args.at).0 c.requires.possible in
    before_within _ _ (as_long _ _ _ c.customers-other.ensures f.at.high)

pub replaced_fits-requires-2-clause-end : goal.replaced_fits-requires-2-clause-end
replaced_fits-requires-2-clause-end g c =
    let f = (c.requires.laws.possible.swap (setting c.args.setup.now).customers c.args.view.now.routes c.args.pair.v c.args.place c.args.pair.w c.args.at).0 c.requires.possible in
    as_long _ _ _ c.customers-other.ensures f.at.high

pub overflow_sub-here : goal.overflow_sub-here
overflow_sub-here g c =
    let f = (c.requires.laws.possible.swap (setting c.args.setup.now).customers c.args.view.now.routes c.args.pair.v c.args.place c.args.pair.w c.args.at).0 c.requires.possible in
    f.at.low

pub overflow_sub-here-2 : goal.overflow_sub-here-2
overflow_sub-here-2 g c =
    let f = (c.requires.laws.possible.swap (setting c.args.setup.now).customers c.args.view.now.routes c.args.pair.v c.args.place c.args.pair.w c.args.at).0 c.requires.possible in
    f.place.low
