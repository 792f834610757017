use Rattle.std.proofs.Common.{◌≡◌, ◌≤◌, ◌∙◌, ap, arith}
use Rattle.plan_core.specs.Plan.{route_at}
use Rattle.pin_core.specs.Pins.{front_of}
use Rattle.pin_core.proofs.Drafted.{front_compared}
use Rattle.pin_core.proofs.pins.Pins.keeps_front.Goals as goal

pub returns : goal.returns
returns g c =
    let d = g.R.NewRoute.draft c.args.new.now in
    let s = c.args.self.now in
    let frozen : c.frozen-frozen.result ≡ front_of s d.vehicle = c.frozen-frozen.ensures ∙ ap (front_of s) c.named.ensures in
    let old : c.customers-old.result.now ≡ route_at c.args.plan.now.routes d.vehicle =
    c.customers-old.ensures ∙ c.deref.ensures ∙ c.route.ensures.value ∙ ap (route_at c.args.plan.now.routes) c.named-2.ensures in
    let few : d.kept ≤ front_of s d.vehicle = omega (arith, frozen, c.stays-kept.ensures, c.if-frozen-kept.false) in
    front_compared (front_of s d.vehicle) d.kept c.frozen-frozen.result c.stays-kept.result (route_at c.args.plan.now.routes d.vehicle) d.rest c.customers-old.result.now c.follows.result.now
    c.begin_alike.result frozen c.stays-kept.ensures old c.follows.ensures few c.requires.front c.begin_alike.ensures
