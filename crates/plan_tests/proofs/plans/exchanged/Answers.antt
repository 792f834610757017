use Rattle.std.proofs.Common.{[], ◌∷◌, refl}
use Rattle.plan_tests.proofs.plans.exchanged.Goals as goal

pub replace-requires-clause-plan : goal.replace-requires-clause-plan
replace-requires-clause-plan g c =
    rw (c.pair-changes.ensures.changes, c.plan_of-plan.ensures) (c.plans_are_tested.ensures 4 ((1 ∷ 4 ∷ []) ∷ (2 ∷ []) ∷ []) refl)
