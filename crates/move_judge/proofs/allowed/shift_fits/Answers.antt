use Rattle.std.proofs.Common.{◌∙◌, sym}
use Rattle.std.proofs.lemmas.Bool.{false≢true}
use Rattle.dimension_core.specs.Setup.{setting}
use Rattle.move_judge.proofs.Between.{first_known, first_misfits, fits_changed, second_known, shift_between}
use Rattle.move_judge.proofs.Places.{at_most_as, first_within, last_within, place_within}
use Rattle.move_judge.proofs.Replaced.{taken, given}
use Rattle.move_judge.proofs.allowed.shift_fits.Goals as goal

pub replaced_fits-requires-clause-known : goal.replaced_fits-requires-clause-known
replaced_fits-requires-clause-known g c =
    let p = c.args.pair in
    let s = setting c.args.setup.now in
    let law = c.requires.laws in
    first_known law s c.args.view.now _ _ _ _ _ _ _ _ _ _ c.requires.view c.requires.possible
    (shift_between law s.customers c.args.view.now.routes p.v c.args.place c.args.length p.w c.args.at c.requires.possible c.requires.apart)
    (taken c.args.place c.args.length _ _ c.customers-route.ensures)

pub replaced_fits-requires-2-clause-known : goal.replaced_fits-requires-2-clause-known
replaced_fits-requires-2-clause-known g c =
    let p = c.args.pair in
    let s = setting c.args.setup.now in
    let law = c.requires.laws in
    second_known law s c.args.view.now _ _ _ _ _ _ _ _ _ _ c.requires.view c.requires.possible
    (shift_between law s.customers c.args.view.now.routes p.v c.args.place c.args.length p.w c.args.at c.requires.possible c.requires.apart)
    (given c.args.place c.args.length c.args.at _ _ _ _ c.customers-route.ensures c.customers-other.ensures)

pub returns-then-not-replaced_fits : goal.returns-then-not-replaced_fits
returns-then-not-replaced_fits g c =
    let p = c.args.pair in
    let s = setting c.args.setup.now in
    let law = c.requires.laws in
    first_misfits law s c.args.view.now.routes _ _ _ _ _ _ _ _ _ _
    (shift_between law s.customers c.args.view.now.routes p.v c.args.place c.args.length p.w c.args.at c.requires.possible c.requires.apart)
    (taken c.args.place c.args.length _ _ c.customers-route.ensures)
    (λ all. false≢true (sym c.if-not-replaced_fits.true ∙ c.replaced_fits.ensures.1 all))

pub returns : goal.returns
returns g c =
    let p = c.args.pair in
    let s = setting c.args.setup.now in
    let law = c.requires.laws in
    fits_changed law s c.args.view.now.routes _ _ _ _ _ _ _ _ _ _ _ _
    (shift_between law s.customers c.args.view.now.routes p.v c.args.place c.args.length p.w c.args.at c.requires.possible c.requires.apart)
    (taken c.args.place c.args.length _ _ c.customers-route.ensures)
    (given c.args.place c.args.length c.args.at _ _ _ _ c.customers-route.ensures c.customers-other.ensures)
    (c.replaced_fits.ensures.0 c.if-not-replaced_fits.false) c.replaced_fits-2.ensures

pub customers-route-requires-clause-low : goal.customers-route-requires-clause-low
customers-route-requires-clause-low g c =
    let f = (c.requires.laws.possible.shift (setting c.args.setup.now).customers c.args.view.now.routes c.args.pair.v c.args.place c.args.length c.args.pair.w c.args.at).0 c.requires.possible in
    f.from.vehicle.low

pub customers-route-requires-clause-high : goal.customers-route-requires-clause-high
customers-route-requires-clause-high g c =
    let f = (c.requires.laws.possible.shift (setting c.args.setup.now).customers c.args.view.now.routes c.args.pair.v c.args.place c.args.length c.args.pair.w c.args.at).0 c.requires.possible in
    f.from.vehicle.high

pub overflow_sub-begin : goal.overflow_sub-begin
overflow_sub-begin g c =
    let f = (c.requires.laws.possible.shift (setting c.args.setup.now).customers c.args.view.now.routes c.args.pair.v c.args.place c.args.length c.args.pair.w c.args.at).0 c.requires.possible in
    f.from.low

pub replaced_fits-requires-clause-low : goal.replaced_fits-requires-clause-low
replaced_fits-requires-clause-low g c =
    let f = (c.requires.laws.possible.shift (setting c.args.setup.now).customers c.args.view.now.routes c.args.pair.v c.args.place c.args.length c.args.pair.w c.args.at).0 c.requires.possible in
    f.from.vehicle.low

pub replaced_fits-requires-clause-high : goal.replaced_fits-requires-clause-high
replaced_fits-requires-clause-high g c =
    let f = (c.requires.laws.possible.shift (setting c.args.setup.now).customers c.args.view.now.routes c.args.pair.v c.args.place c.args.length c.args.pair.w c.args.at).0 c.requires.possible in
    at_most_as _ _ _ c.requires.view.vehicles f.from.vehicle.high

pub replaced_fits-requires-clause-begin : goal.replaced_fits-requires-clause-begin
replaced_fits-requires-clause-begin g c =
    let f = (c.requires.laws.possible.shift (setting c.args.setup.now).customers c.args.view.now.routes c.args.pair.v c.args.place c.args.length c.args.pair.w c.args.at).0 c.requires.possible in
    first_within _ _ _ _ c.customers-route.ensures f.from.high

pub replaced_fits-requires-clause-end : goal.replaced_fits-requires-clause-end
replaced_fits-requires-clause-end g c =
    let f = (c.requires.laws.possible.shift (setting c.args.setup.now).customers c.args.view.now.routes c.args.pair.v c.args.place c.args.length c.args.pair.w c.args.at).0 c.requires.possible in
    last_within _ _ _ _ c.customers-route.ensures f.from.low f.from.high

pub customers-other-requires-clause-low : goal.customers-other-requires-clause-low
customers-other-requires-clause-low g c =
    let f = (c.requires.laws.possible.shift (setting c.args.setup.now).customers c.args.view.now.routes c.args.pair.v c.args.place c.args.length c.args.pair.w c.args.at).0 c.requires.possible in
    f.onto.vehicle.low

pub customers-other-requires-clause-high : goal.customers-other-requires-clause-high
customers-other-requires-clause-high g c =
    let f = (c.requires.laws.possible.shift (setting c.args.setup.now).customers c.args.view.now.routes c.args.pair.v c.args.place c.args.length c.args.pair.w c.args.at).0 c.requires.possible in
    f.onto.vehicle.high

pub overflow_sub-onto : goal.overflow_sub-onto
overflow_sub-onto g c =
    let f = (c.requires.laws.possible.shift (setting c.args.setup.now).customers c.args.view.now.routes c.args.pair.v c.args.place c.args.length c.args.pair.w c.args.at).0 c.requires.possible in
    f.onto.low

pub replaced_fits-requires-2-clause-low : goal.replaced_fits-requires-2-clause-low
replaced_fits-requires-2-clause-low g c =
    let f = (c.requires.laws.possible.shift (setting c.args.setup.now).customers c.args.view.now.routes c.args.pair.v c.args.place c.args.length c.args.pair.w c.args.at).0 c.requires.possible in
    f.onto.vehicle.low

pub replaced_fits-requires-2-clause-high : goal.replaced_fits-requires-2-clause-high
replaced_fits-requires-2-clause-high g c =
    let f = (c.requires.laws.possible.shift (setting c.args.setup.now).customers c.args.view.now.routes c.args.pair.v c.args.place c.args.length c.args.pair.w c.args.at).0 c.requires.possible in
    at_most_as _ _ _ c.requires.view.vehicles f.onto.vehicle.high

pub replaced_fits-requires-2-clause-begin : goal.replaced_fits-requires-2-clause-begin
replaced_fits-requires-2-clause-begin g c =
    let f = (c.requires.laws.possible.shift (setting c.args.setup.now).customers c.args.view.now.routes c.args.pair.v c.args.place c.args.length c.args.pair.w c.args.at).0 c.requires.possible in
    place_within _ _ _ c.customers-other.ensures (f.onto.outside c.requires.apart)

pub replaced_fits-requires-2-clause-end : goal.replaced_fits-requires-2-clause-end
replaced_fits-requires-2-clause-end g c =
    let f = (c.requires.laws.possible.shift (setting c.args.setup.now).customers c.args.view.now.routes c.args.pair.v c.args.place c.args.length c.args.pair.w c.args.at).0 c.requires.possible in
    place_within _ _ _ c.customers-other.ensures (f.onto.outside c.requires.apart)
