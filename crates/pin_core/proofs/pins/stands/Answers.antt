use Rattle.std.proofs.Common.{◌≡◌, ◌≤◌, ℕ, List, length, subst, sym, ◌∙◌, arith, Contains}
use Rattle.plan_core.specs.Plan.{route_at}
use Rattle.pin_core.proofs.Standing.{contains_from_stands, stands_from_contains}
use Rattle.pin_core.proofs.pins.stands.Goals as goal

pub returns : goal.returns
returns c =
    let routes = c.args.plan.now.routes in
    let d = c.args.customer in
    let v = c.args.vehicle in
    let low : 1 ≤ v = omega arith in
    let high : v ≤ length routes = omega (arith, c.vehicles.ensures.value) in
    let read : c.customers.result.now ≡ route_at routes v = c.customers.ensures ∙ c.deref.ensures ∙ c.route.ensures.value in (
      λ yes. stands_from_contains routes d v low high (subst (λ (r : List ℕ). Contains r d) read (c.is_on.ensures.0 yes)),
      λ stands. c.is_on.ensures.1 (subst (λ (r : List ℕ). Contains r d) (sym read) (contains_from_stands routes d v stands)),
    )
