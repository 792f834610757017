use Rattle.std.proofs.Common.{◌≡◌, ◌+◌, ◌∙◌, ℕ, List, inl, inr, sym, subst, arith}
use Rattle.std.proofs.lemmas.Bool.{cases_eq}
use Rattle.dimension_core.specs.Feasible.{FitsAll}
use Rattle.dimension_core.specs.Setup.{setting}
use Rattle.plan_core.specs.Plan.{route_at}
use Rattle.plan_tests.proofs.ranges.made_anew.Goals as goal

pub loop-before-preserved : goal.loop-before-preserved
loop-before-preserved g c = λ v low high.
    let s = setting c.args.setup.now in
    let route : c.customers-route.result.now ≡ route_at c.args.plan.now.routes (c.loop-before.before + 1) = c.customers-route.ensures ∙ c.deref.ensures ∙ c.route.ensures.value in
    elim (cases_eq v (c.loop-before.before + 1)) [
      | inl e ↦
          subst (λ (n : ℕ). FitsAll s n (route_at c.args.plan.now.routes n)) (sym e)
          (subst (λ (r : List ℕ). FitsAll s (c.loop-before.before + 1) r) route c.in_default.ensures.first)
      | inr o ↦ c.loop-before.invariant v low (omega arith)
    ]

pub of-requires-clause-feasible : goal.of-requires-clause-feasible
of-requires-clause-feasible g c = λ v low high.
    c.loop-before.invariant v low (omega (arith, high, c.vehicles-before-end.ensures.value, c.loop-before-test.false))
