use Rattle.gathered_ways.proofs.Rooms.{twice_fit, twice_more_fit}
use Rattle.std.proofs.lemmas.Result.{IfOk-weaker}
use Rattle.std.proofs.Common.{◌≡◌, ◌∙◌, [], ◌∷◌, ◌++◌, List, ℕ, ap, subst, sym, ◌≤◌}
use Rattle.dimension_core.specs.Setup.{setting}
use Rattle.way_costs.specs.Ways.{AreStops}
use Rattle.gathered_ways.proofs.AllStops.{made_stops}
use Rattle.gathered_ways.proofs.stops.fill_stops.Goals as goal

pub returns : goal.returns
returns g c =
    let s = setting c.args.setup.now in
    let routes = c.args.view.now.routes in
    let all = c.begin_stops.new.all.items in
    IfOk-weaker c.begin_stops.result (λ _. all ≡ 0 ∷ (c.customers-customers-2.result.now ++ 0 ∷ [])) (λ _. AreStops s.customers routes c.args.v all)
    (λ _ e. made_stops c.routes_are_known.ensures s routes c.args.v all c.requires.plan c.requires.vehicles c.customers-customers.ensures.sound.few_customers c.requires.low c.requires.high
    (e ∙ ap (λ (r : List ℕ). 0 ∷ (r ++ 0 ∷ [])) c.customers-customers-2.ensures))
    c.begin_stops.ensures

pub customers-customers-requires-2-clause-low : goal.customers-customers-requires-2-clause-low
customers-customers-requires-2-clause-low g c = c.requires.low

pub customers-customers-requires-2-clause-high : goal.customers-customers-requires-2-clause-high
customers-customers-requires-2-clause-high g c = subst (λ (n : ℕ). c.args.v ≤ n) (sym c.requires.vehicles) c.requires.high

pub overflow_mul-customers : goal.overflow_mul-customers
overflow_mul-customers g c = twice_fit _ _ _ c.customers-customers-2.ensures (c.routes_are_known.ensures.short _ _ c.args.v c.requires.plan) c.customers-customers.ensures.sound.few_customers

pub overflow_add-customers : goal.overflow_add-customers
overflow_add-customers g c = twice_more_fit _ _ _ c.customers-customers-2.ensures (c.routes_are_known.ensures.short _ _ c.args.v c.requires.plan) c.customers-customers.ensures.sound.few_customers
