use Rattle.plan_core.proofs.Exchange.{length-with_routes, route_at-others, route_at-named, route_at-first, route_at-second}
use Rattle.plan_core.proofs.laws.routes_replaced.Goals as goal

pub returns : goal.returns
returns c = record { count = length-with_routes; others = route_at-others; named = route_at-named; first = route_at-first; second = route_at-second }
