use Rattle.std.proofs.Common.{◌≡◌, [], ◌∷◌}
use Rattle.plan_tests.proofs.new_routes.plan_of.Goals as goal

pub replace-requires-clause-plan : goal.replace-requires-clause-plan
replace-requires-clause-plan g c =
    let made : c.expect-plan.result ≡ record { customers = c.args.customers; routes = [] ∷ [] ∷ []; version = 0; stamps = 0 ∷ 0 ∷ [] } = rw (c.expect-plan.ensures) at c.new.ensures in
    rw (c.pair-changes.ensures.changes, made) (c.plans_are_tested.ensures c.args.customers (c.args.first.now ∷ c.args.second.now ∷ []) c.requires.plan)
