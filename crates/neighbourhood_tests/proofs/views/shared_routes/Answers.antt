use Rattle.std.proofs.Common.{◌≡◌, ◌∙◌, ◌<◌, ◌+◌, ◌-◌, ℕ, List, [], ◌∷◌, ◌++◌, length, take, ap, refl, sym, arith, slice_index_or}
use Rattle.std.specs.declared.sync.Arc.{Arc}
use Rattle.std.proofs.lemmas.List.{map-append, take_more}
use Rattle.plan_core.specs.Plan.{route_at, routes_of}
use Rattle.neighbourhood_tests.proofs.views.shared_routes.Goals as goal

-- one more route
one_more : {Z : Type 0} (old new : List (Arc (List ℕ) Z)) (x : Arc (List ℕ) Z) (routes : List (List ℕ)) (k : ℕ) → new ≡ old ++ x ∷ [] → x.value ≡ route_at routes (k + 1) → k < length routes
    → routes_of old ≡ take k routes → routes_of new ≡ take (k + 1) routes
one_more old new x routes k grown value here before =
    let place : k + 1 - 1 ≡ k = omega arith in
    let is : x.value ≡ slice_index_or routes k [] = value ∙ ap (λ (n : ℕ). slice_index_or routes n []) place in
    rw (grown, map-append, before, is) (sym (take_more routes k [] here))

pub loop-before-preserved : goal.loop-before-preserved
loop-before-preserved g c =
    let here : c.loop-before.before < length c.args.plan.now.routes = omega (arith, c.vehicles-before-end.ensures.value, c.loop-before-test.true) in
    one_more c.loop-before.routes.items c.push.new.self.items c.expect-route.result c.args.plan.now.routes c.loop-before.before (rw c.expect.ensures at c.push.ensures.items)
    ((rw c.expect-route.ensures at c.try_clone.ensures) ∙ c.route.ensures.value) here c.loop-before.invariant

pub loop-before-init : goal.loop-before-init
loop-before-init g c = rw c.new-routes.ensures.items refl
