use Rattle.std.proofs.Common.{◌≡◌, ◌∙◌, refl, length}
use Rattle.std.proofs.lemmas.Option.{slice_get_read}
use Rattle.pin_core.proofs.Standing.{before_more, before_all, not_drafted}
use Rattle.pin_core.proofs.pins.new_route.Goals as goal

pub loop-new-preserved : goal.loop-new-preserved
loop-new-preserved g c =
    before_more (λ r. (g.R.NewRoute.draft r).vehicle ≡ c.args.vehicle → ⊥) c.args.new_routes.now c.loop-new.new-index c.new-item.result
    (slice_get_read c.args.new_routes.now (length c.args.new_routes.now) c.loop-new.new-index c.new-item.result refl c.loop-new-test.true c.new-item.is)
    (λ e. c.if-named-vehicle.false (c.named.ensures ∙ e)) c.loop-new.invariant

pub returns-clause-named : goal.returns-clause-named
returns-clause-named g c = λ routes.
    not_drafted g.R.NewRoute.draft routes c.args.new_routes.now c.args.vehicle
    (before_all (λ r. (g.R.NewRoute.draft r).vehicle ≡ c.args.vehicle → ⊥) c.args.new_routes.now c.loop-new.new-index c.loop-new-test.false c.loop-new.invariant)
