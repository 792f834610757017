use Rattle.std.proofs.Common.{◌≡◌, ◌∙◌, Some, ap, length, subst, sym, refl}
use Rattle.plan_core.specs.Plan.{AreChanges, Changes, IsPlan, PlanState, changes_of, with_routes}
use Rattle.move_core.specs.Moves.{changes_by, effect}
use Rattle.neighbourhood_tests.proofs.views.put.Goals as goal

pub replace-requires-clause-plan : goal.replace-requires-clause-plan
replace-requires-clause-plan g c =
    let n = c.args.plan.now.customers in
    let routes = c.args.plan.now.routes in
    let made : changes_of c.expect-changes.result.items ≡ changes_by c.args.plan.now.routes c.args.mv = rw (c.expect-changes.ensures) at c.routes.ensures in
    let can = sym c.is_possible.ensures ∙ c.if-not-is_possible.false in
    let has : effect c.args.plan.now.customers c.args.plan.now.routes c.args.mv ≡ Some (changes_by c.args.plan.now.routes c.args.mv) = rw can refl in
    subst (λ (cs : Changes). IsPlan n (with_routes cs routes)) (sym made)
    (c.moves_keep_plans.ensures.plan n routes c.args.mv (changes_by routes c.args.mv) c.customers-sound.ensures.sound has)

pub replace-requires-clause-changes : goal.replace-requires-clause-changes
replace-requires-clause-changes g c =
    let n = c.args.plan.now.customers in
    let routes = c.args.plan.now.routes in
    let made : changes_of c.expect-changes.result.items ≡ changes_by c.args.plan.now.routes c.args.mv = rw (c.expect-changes.ensures) at c.routes.ensures in
    let can = sym c.is_possible.ensures ∙ c.if-not-is_possible.false in
    let has : effect c.args.plan.now.customers c.args.plan.now.routes c.args.mv ≡ Some (changes_by c.args.plan.now.routes c.args.mv) = rw can refl in
    subst (λ (cs : Changes). AreChanges (length routes) cs) (sym made) (c.moves_name_vehicles.ensures.changes n routes c.args.mv (changes_by routes c.args.mv) has)

pub returns-then-are_fit-clause-vehicles : goal.returns-then-are_fit-clause-vehicles
returns-then-are_fit-clause-vehicles g c =
    ap (λ (p : PlanState). length p.routes) c.replace.ensures.plan ∙ c.routes_replaced.ensures.count (changes_of c.expect-changes.result.items) c.args.plan.now.routes

pub returns-then-are_fit-clause-customers : goal.returns-then-are_fit-clause-customers
returns-then-are_fit-clause-customers g c = ap (λ (p : PlanState). p.customers) c.replace.ensures.plan

pub returns-else-are_fit : goal.returns-else-are_fit
returns-else-are_fit g c = record { customers = refl; vehicles = refl }

pub returns-then-version-ge100 : goal.returns-then-version-ge100
returns-then-version-ge100 g c = record { customers = refl; vehicles = refl }
