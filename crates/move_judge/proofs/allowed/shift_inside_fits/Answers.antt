use Rattle.std.proofs.Common.{◌∙◌, ap, refl}
use Rattle.dimension_core.specs.Setup.{setting}
use Rattle.route_parts.specs.declared.replaced.Replacement.{Replacement}
use Rattle.route_parts.specs.Replaced.{replaced}
use Rattle.move_judge.proofs.Inside.{one_known, fits_changed, shift_forwards, shift_backwards}
use Rattle.move_judge.proofs.Places.{at_most_as, before_from, after_from, last_within}
use Rattle.move_judge.proofs.Replaced.{forwards, backwards}
use Rattle.move_judge.proofs.allowed.shift_inside_fits.Goals.{then-onto-begin, else-onto-begin}
use Rattle.move_judge.proofs.allowed.shift_inside_fits.Goals as goal

pub replaced_fits-requires-clause-known : goal.replaced_fits-requires-clause-known
replaced_fits-requires-clause-known g c =
    let s = setting c.args.setup.now in
    let law = c.requires.laws in
    let f = (law.possible.shift s.customers c.args.view.now.routes c.args.v c.args.moved.place c.args.moved.length c.args.v c.args.at).0 c.requires.possible in
    elim c.if-onto-begin.branch [
      | then-onto-begin w ↦
          one_known law s c.args.view.now _ _ _ _ _ c.requires.view c.requires.possible
          (shift_forwards law s.customers c.args.view.now.routes c.args.v c.args.moved.place c.args.moved.length c.args.at c.requires.possible (before_from _ _ w.if-onto-begin.true))
          (ap (λ (by : Replacement). replaced c.customers-route.result.now by) w.by-is
          ∙ forwards c.args.moved.place c.args.moved.length c.args.at _ _ f.onto.low w.if-onto-begin.true c.customers-route.ensures)
      | else-onto-begin w ↦
          one_known law s c.args.view.now _ _ _ _ _ c.requires.view c.requires.possible
          (shift_backwards law s.customers c.args.view.now.routes c.args.v c.args.moved.place c.args.moved.length c.args.at c.requires.possible (after_from _ _ f.from.low f.onto.low w.if-onto-begin.false (f.onto.inside refl).1))
          (ap (λ (by : Replacement). replaced c.customers-route.result.now by) w.by-is
          ∙ backwards c.args.moved.place c.args.moved.length c.args.at _ _ f.from.low w.if-onto-begin.false c.customers-route.ensures)
    ]

pub returns : goal.returns
returns g c =
    let s = setting c.args.setup.now in
    let law = c.requires.laws in
    let f = (law.possible.shift s.customers c.args.view.now.routes c.args.v c.args.moved.place c.args.moved.length c.args.v c.args.at).0 c.requires.possible in
    elim c.if-onto-begin.branch [
      | then-onto-begin w ↦
          fits_changed law s c.args.view.now.routes _ _ _ _ _ _
          (shift_forwards law s.customers c.args.view.now.routes c.args.v c.args.moved.place c.args.moved.length c.args.at c.requires.possible (before_from _ _ w.if-onto-begin.true)) c.replaced_fits.ensures
          (ap (λ (by : Replacement). replaced c.customers-route.result.now by) w.by-is
          ∙ forwards c.args.moved.place c.args.moved.length c.args.at _ _ f.onto.low w.if-onto-begin.true c.customers-route.ensures)
      | else-onto-begin w ↦
          fits_changed law s c.args.view.now.routes _ _ _ _ _ _
          (shift_backwards law s.customers c.args.view.now.routes c.args.v c.args.moved.place c.args.moved.length c.args.at c.requires.possible (after_from _ _ f.from.low f.onto.low w.if-onto-begin.false (f.onto.inside refl).1)) c.replaced_fits.ensures
          (ap (λ (by : Replacement). replaced c.customers-route.result.now by) w.by-is
          ∙ backwards c.args.moved.place c.args.moved.length c.args.at _ _ f.from.low w.if-onto-begin.false c.customers-route.ensures)
    ]

pub customers-route-requires-clause-low : goal.customers-route-requires-clause-low
customers-route-requires-clause-low g c =
    let f = (c.requires.laws.possible.shift (setting c.args.setup.now).customers c.args.view.now.routes c.args.v c.args.moved.place c.args.moved.length c.args.v c.args.at).0 c.requires.possible in
    f.from.vehicle.low

pub customers-route-requires-clause-high : goal.customers-route-requires-clause-high
customers-route-requires-clause-high g c =
    let f = (c.requires.laws.possible.shift (setting c.args.setup.now).customers c.args.view.now.routes c.args.v c.args.moved.place c.args.moved.length c.args.v c.args.at).0 c.requires.possible in
    f.from.vehicle.high

pub overflow_sub-begin : goal.overflow_sub-begin
overflow_sub-begin g c =
    let f = (c.requires.laws.possible.shift (setting c.args.setup.now).customers c.args.view.now.routes c.args.v c.args.moved.place c.args.moved.length c.args.v c.args.at).0 c.requires.possible in
    f.from.low

pub overflow_sub-onto : goal.overflow_sub-onto
overflow_sub-onto g c =
    let f = (c.requires.laws.possible.shift (setting c.args.setup.now).customers c.args.view.now.routes c.args.v c.args.moved.place c.args.moved.length c.args.v c.args.at).0 c.requires.possible in
    f.onto.low

pub slice_bounds-stretch-end : goal.slice_bounds-stretch-end
slice_bounds-stretch-end g c =
    let f = (c.requires.laws.possible.shift (setting c.args.setup.now).customers c.args.view.now.routes c.args.v c.args.moved.place c.args.moved.length c.args.v c.args.at).0 c.requires.possible in
    last_within _ _ _ _ c.customers-route.ensures f.from.low f.from.high

pub replaced_fits-requires-clause-low : goal.replaced_fits-requires-clause-low
replaced_fits-requires-clause-low g c =
    let f = (c.requires.laws.possible.shift (setting c.args.setup.now).customers c.args.view.now.routes c.args.v c.args.moved.place c.args.moved.length c.args.v c.args.at).0 c.requires.possible in
    f.from.vehicle.low

pub replaced_fits-requires-clause-high : goal.replaced_fits-requires-clause-high
replaced_fits-requires-clause-high g c =
    let f = (c.requires.laws.possible.shift (setting c.args.setup.now).customers c.args.view.now.routes c.args.v c.args.moved.place c.args.moved.length c.args.v c.args.at).0 c.requires.possible in
    at_most_as _ _ _ c.requires.view.vehicles f.from.vehicle.high
