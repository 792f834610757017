use Rattle.std.proofs.Common.{◌+◌, ℕ, List, inl, inr, sym, subst, arith}
use Rattle.std.proofs.lemmas.Bool.{cases_eq}
use Rattle.dimension_core.specs.Feasible.{FitsAll}
use Rattle.dimension_core.specs.Setup.{setting}
use Rattle.plan_core.specs.Plan.{route_at}
use Rattle.neighbourhood_tests.proofs.views.is_feasible.Goals as goal

pub loop-before-preserved : goal.loop-before-preserved
loop-before-preserved g c = λ v low high.
    let s = setting c.args.setup.now in
    elim (cases_eq v (c.loop-before.before + 1)) [
      | inl e ↦
          subst (λ (n : ℕ). FitsAll s n (route_at c.args.view.now.routes n)) (sym e)
          (subst (λ (r : List ℕ). FitsAll s (c.loop-before.before + 1) r) c.customers.ensures (c.is_fit.ensures c.if-not-is_fit.false))
      | inr o ↦ c.loop-before.invariant v low (omega arith)
    ]

pub returns : goal.returns
returns g c = λ _ v low high.
    c.loop-before.invariant v low (omega (arith, high, c.vehicles-before-end.ensures.value, c.loop-before-test.false))
