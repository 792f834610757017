use Rattle.std.proofs.Common.{◌∙◌, List, ℕ, ap, drop, subst, sym, take}
use Rattle.std.proofs.lemmas.Bool.{false≢true}
use Rattle.dimension_core.specs.Setup.{setting}
use Rattle.route_parts.specs.Kept.{AreAhead, AreBehind}
use Rattle.move_judge.proofs.Between.{first_known, first_misfits, fits_changed, second_known, cross_between}
use Rattle.move_judge.proofs.Places.{at_most_as, as_long, two_parts}
use Rattle.move_judge.proofs.allowed.cross_fits.Goals as goal

pub joined_fits-requires-clause-known : goal.joined_fits-requires-clause-known
joined_fits-requires-clause-known g c =
    first_known c.requires.laws (setting c.args.setup.now) c.args.view.now _ _ _ _ _ _ _ _ _ _ c.requires.view c.requires.possible
    (cross_between c.requires.laws (setting c.args.setup.now).customers c.args.view.now.routes c.args.pair.v c.args.keep c.args.pair.w c.args.keep_other c.requires.possible)
    (two_parts _ _ _ _ (ap (take c.args.keep) c.customers-route.ensures) (ap (drop c.args.keep_other) c.customers-other.ensures))

pub joined_fits-requires-2-clause-known : goal.joined_fits-requires-2-clause-known
joined_fits-requires-2-clause-known g c =
    second_known c.requires.laws (setting c.args.setup.now) c.args.view.now _ _ _ _ _ _ _ _ _ _ c.requires.view c.requires.possible
    (cross_between c.requires.laws (setting c.args.setup.now).customers c.args.view.now.routes c.args.pair.v c.args.keep c.args.pair.w c.args.keep_other c.requires.possible)
    (two_parts _ _ _ _ (ap (take c.args.keep_other) c.customers-other.ensures) (ap (drop c.args.keep) c.customers-route.ensures))

pub returns-then-not-joined_fits : goal.returns-then-not-joined_fits
returns-then-not-joined_fits g c =
    first_misfits c.requires.laws (setting c.args.setup.now) c.args.view.now.routes _ _ _ _ _ _ _ _ _ _
    (cross_between c.requires.laws (setting c.args.setup.now).customers c.args.view.now.routes c.args.pair.v c.args.keep c.args.pair.w c.args.keep_other c.requires.possible)
    (two_parts _ _ _ _ (ap (take c.args.keep) c.customers-route.ensures) (ap (drop c.args.keep_other) c.customers-other.ensures))
    (λ all. false≢true (sym c.if-not-joined_fits.true ∙ c.joined_fits.ensures.1 all))

pub returns : goal.returns
returns g c =
    fits_changed c.requires.laws (setting c.args.setup.now) c.args.view.now.routes _ _ _ _ _ _ _ _ _ _ _ _
    (cross_between c.requires.laws (setting c.args.setup.now).customers c.args.view.now.routes c.args.pair.v c.args.keep c.args.pair.w c.args.keep_other c.requires.possible)
    (two_parts _ _ _ _ (ap (take c.args.keep) c.customers-route.ensures) (ap (drop c.args.keep_other) c.customers-other.ensures))
    (two_parts _ _ _ _ (ap (take c.args.keep_other) c.customers-other.ensures) (ap (drop c.args.keep) c.customers-route.ensures))
    (c.joined_fits.ensures.0 c.if-not-joined_fits.false) c.joined_fits-2.ensures

pub customers-route-requires-clause-low : goal.customers-route-requires-clause-low
customers-route-requires-clause-low g c =
    let f = (c.requires.laws.possible.cross (setting c.args.setup.now).customers c.args.view.now.routes c.args.pair.v c.args.keep c.args.pair.w c.args.keep_other).0 c.requires.possible in
    f.vehicle.low

pub customers-route-requires-clause-high : goal.customers-route-requires-clause-high
customers-route-requires-clause-high g c =
    let f = (c.requires.laws.possible.cross (setting c.args.setup.now).customers c.args.view.now.routes c.args.pair.v c.args.keep c.args.pair.w c.args.keep_other).0 c.requires.possible in
    f.vehicle.high

pub customers-other-requires-clause-low : goal.customers-other-requires-clause-low
customers-other-requires-clause-low g c =
    let f = (c.requires.laws.possible.cross (setting c.args.setup.now).customers c.args.view.now.routes c.args.pair.v c.args.keep c.args.pair.w c.args.keep_other).0 c.requires.possible in
    f.other.low

pub customers-other-requires-clause-high : goal.customers-other-requires-clause-high
customers-other-requires-clause-high g c =
    let f = (c.requires.laws.possible.cross (setting c.args.setup.now).customers c.args.view.now.routes c.args.pair.v c.args.keep c.args.pair.w c.args.keep_other).0 c.requires.possible in
    f.other.high

pub joined_fits-requires-clause-low : goal.joined_fits-requires-clause-low
joined_fits-requires-clause-low g c =
    let f = (c.requires.laws.possible.cross (setting c.args.setup.now).customers c.args.view.now.routes c.args.pair.v c.args.keep c.args.pair.w c.args.keep_other).0 c.requires.possible in
    f.vehicle.low

pub joined_fits-requires-clause-high : goal.joined_fits-requires-clause-high
joined_fits-requires-clause-high g c =
    let f = (c.requires.laws.possible.cross (setting c.args.setup.now).customers c.args.view.now.routes c.args.pair.v c.args.keep c.args.pair.w c.args.keep_other).0 c.requires.possible in
    at_most_as _ _ _ c.requires.view.vehicles f.vehicle.high

pub joined_fits-requires-clause-keep : goal.joined_fits-requires-clause-keep
joined_fits-requires-clause-keep g c =
    let f = (c.requires.laws.possible.cross (setting c.args.setup.now).customers c.args.view.now.routes c.args.pair.v c.args.keep c.args.pair.w c.args.keep_other).0 c.requires.possible in
    as_long _ _ _ c.customers-route.ensures f.kept

pub joined_fits-requires-clause-keep_other : goal.joined_fits-requires-clause-keep_other
joined_fits-requires-clause-keep_other g c =
    let f = (c.requires.laws.possible.cross (setting c.args.setup.now).customers c.args.view.now.routes c.args.pair.v c.args.keep c.args.pair.w c.args.keep_other).0 c.requires.possible in
    as_long _ _ _ c.customers-other.ensures f.kept_other

pub joined_fits-requires-clause-ahead : goal.joined_fits-requires-clause-ahead
joined_fits-requires-clause-ahead g c =
    λ wide. subst (λ (r : List ℕ). AreAhead (setting c.args.setup.now) c.args.pair.v r c.args.pair.v_kept.now.ahead) (sym c.customers-route.ensures) (c.requires.v_kept.ahead wide)

pub joined_fits-requires-clause-over : goal.joined_fits-requires-clause-over
joined_fits-requires-clause-over g c =
    let f = (c.requires.laws.possible.cross (setting c.args.setup.now).customers c.args.view.now.routes c.args.pair.v c.args.keep c.args.pair.w c.args.keep_other).0 c.requires.possible in
    λ wide. subst (λ (r : List ℕ). AreBehind (setting c.args.setup.now) c.args.pair.v r c.args.pair.v_kept.now.over) (sym c.customers-other.ensures) (c.requires.v_kept.over f.apart wide)

pub joined_fits-requires-2-clause-low : goal.joined_fits-requires-2-clause-low
joined_fits-requires-2-clause-low g c =
    let f = (c.requires.laws.possible.cross (setting c.args.setup.now).customers c.args.view.now.routes c.args.pair.v c.args.keep c.args.pair.w c.args.keep_other).0 c.requires.possible in
    f.other.low

pub joined_fits-requires-2-clause-high : goal.joined_fits-requires-2-clause-high
joined_fits-requires-2-clause-high g c =
    let f = (c.requires.laws.possible.cross (setting c.args.setup.now).customers c.args.view.now.routes c.args.pair.v c.args.keep c.args.pair.w c.args.keep_other).0 c.requires.possible in
    at_most_as _ _ _ c.requires.view.vehicles f.other.high

pub joined_fits-requires-2-clause-keep : goal.joined_fits-requires-2-clause-keep
joined_fits-requires-2-clause-keep g c =
    let f = (c.requires.laws.possible.cross (setting c.args.setup.now).customers c.args.view.now.routes c.args.pair.v c.args.keep c.args.pair.w c.args.keep_other).0 c.requires.possible in
    as_long _ _ _ c.customers-other.ensures f.kept_other

pub joined_fits-requires-2-clause-keep_other : goal.joined_fits-requires-2-clause-keep_other
joined_fits-requires-2-clause-keep_other g c =
    let f = (c.requires.laws.possible.cross (setting c.args.setup.now).customers c.args.view.now.routes c.args.pair.v c.args.keep c.args.pair.w c.args.keep_other).0 c.requires.possible in
    as_long _ _ _ c.customers-route.ensures f.kept

pub joined_fits-requires-2-clause-ahead : goal.joined_fits-requires-2-clause-ahead
joined_fits-requires-2-clause-ahead g c =
    λ wide. subst (λ (r : List ℕ). AreAhead (setting c.args.setup.now) c.args.pair.w r c.args.pair.w_kept.now.ahead) (sym c.customers-other.ensures) (c.requires.w_kept.ahead wide)

pub joined_fits-requires-2-clause-over : goal.joined_fits-requires-2-clause-over
joined_fits-requires-2-clause-over g c =
    let f = (c.requires.laws.possible.cross (setting c.args.setup.now).customers c.args.view.now.routes c.args.pair.v c.args.keep c.args.pair.w c.args.keep_other).0 c.requires.possible in
    λ wide. subst (λ (r : List ℕ). AreBehind (setting c.args.setup.now) c.args.pair.w r c.args.pair.w_kept.now.over) (sym c.customers-route.ensures) (c.requires.w_kept.over (λ e. f.apart (sym e)) wide)
