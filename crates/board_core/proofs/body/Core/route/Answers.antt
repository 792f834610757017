use Rattle.std.proofs.Common.{arith, ap, ◌∙◌, length}
use Rattle.plan_core.specs.Plan.{PlanState}
use Rattle.board_core.specs.Kept.{CoreState}
use Rattle.board_rules.specs.History.{state_after}
use Rattle.board_core.proofs.Stops.{fleet}
use Rattle.board_core.proofs.body.Core.route.Goals as goal

pub route-requires-clause-low : goal.route-requires-clause-low
route-requires-clause-low c = c.requires.2

pub route-requires-clause-high : goal.route-requires-clause-high
route-requires-clause-high c =
    let all = fleet c.requires.0 c.args.self.now.held (state_after c.requires.0 c.args.self.now.journal) c.requires.1.held in
    let last = c.requires.3 in
    let read = ap (λ (p : PlanState). length p.routes) c.plan.ensures ∙ ap (λ (x : CoreState). length x.held.plan.routes) c.self.view_is in
    omega (arith, read, all, last)
