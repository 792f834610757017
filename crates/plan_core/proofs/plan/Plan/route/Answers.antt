use Rattle.std.proofs.Common.{arith, length, subst, All, ◌<◌, ◌≤◌, ◌-◌}
use Rattle.std.proofs.lemmas.Grind.{common_steps}
use Rattle.plan_core.specs.Plan.{PlanState}
use Rattle.plan_core.proofs.KnownRoutes.{read_known}
use Rattle.plan_core.proofs.Short.{short_read}
use Rattle.plan_core.proofs.plan.Plan.route.Goals as goal

pub returns-clause-short : goal.returns-clause-short
returns-clause-short c =
    let within : c.args.vehicle - 1 < length c.self.inside.routes.items = grind (arith, common_steps) in
    short_read (λ r. r.value) c.self.inside.routes.items (c.args.vehicle - 1) c.self.inside.customers c.index.result.now within c.index.ensures c.self.invariant.sound c.self.invariant.sizes.customers

pub returns-clause-known : goal.returns-clause-known
returns-clause-known c =
    let within : c.args.vehicle - 1 < length c.self.inside.routes.items = grind (arith, common_steps) in
    let known = read_known (λ r. r.value) c.self.inside.routes.items (c.args.vehicle - 1) c.self.inside.customers c.index.result.now within c.index.ensures c.self.invariant.sound in
    subst (λ (s : PlanState). All (λ x. (1 ≤ x) × (x ≤ s.customers)) c.index.result.now.value) c.self.view_is known
