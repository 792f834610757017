use Rattle.std.proofs.Common.{◌≡◌, ℕ, ◌-◌, ◌<◌, subst, arith, length, ap, sym, ◌∙◌, [], slice_index, get_or}
use Rattle.std.proofs.lemmas.List.{get_or_default, length-map}
use Rattle.plan_core.specs.Plan.{PlanState, StandsAt, route_at}
use Rattle.plan_core.specs.Homes.{IsKept}
use Rattle.plan_core.proofs.Places.{map_read, stands_in, only_there, not_there, plan_as}
use Rattle.plan_core.proofs.Short.{short_read}
use Rattle.plan_core.proofs.plan.Plan.place_of.Goals as goal
use Rattle.plan_core.proofs.plan.Plan.place_of.Goals.{After-customers, In-None, In-Some}

-- the vehicle is the recorded one
home_is : (c : After-customers) → c.index-home.result.now ≡ slice_index c.self.inside.homes.items (c.args.customer - 1)
home_is c =
    let counted : length c.self.inside.homes.items ≡ c.self.inside.customers = c.self.invariant.counted in
    let within : c.args.customer - 1 < length c.self.inside.homes.items = omega arith in
    c.index-home.ensures ∙ get_or_default c.self.inside.homes.items (c.args.customer - 1) c.index-home.result.now 0 within

-- and there is such a vehicle
home_within : (c : After-customers) → c.index-home.result.now - 1 < length c.self.inside.routes.items
home_within c =
    let top = c.self.invariant.homes.known (c.args.customer - 1) in
    let long = length-map c.self.inside.routes.items (λ r. r.value) in
    let home = home_is c in
    omega arith

kept : (c : After-customers) → IsKept c.args.self.now c.self.inside.homes.items
kept c = subst (λ (s : PlanState). IsKept s c.self.inside.homes.items) c.self.view_is c.self.invariant

read : (c : After-customers) → c.customers.result.now ≡ route_at c.args.self.now.routes c.index-home.result.now
read c =
    c.customers.ensures ∙ c.deref.ensures
    ∙ map_read (λ r. r.value) c.self.inside.routes.items (c.index-home.result.now - 1) c.index-route.result.now (home_within c) c.index-route.ensures
    ∙ ap (λ (s : PlanState). get_or s.routes (c.index-home.result.now - 1) []) c.self.view_is

pub place_in-requires : goal.place_in-requires
place_in-requires c =
    rw (c.customers.ensures ∙ c.deref.ensures)
    (short_read (λ r. r.value) c.self.inside.routes.items (c.index-home.result.now - 1) c.self.inside.customers c.index-route.result.now (home_within c) c.index-route.ensures
    c.self.invariant.sound c.self.invariant.sizes.customers)

-- where it is not on that vehicle, it stands nowhere
out : (c : In-None) → (v p : ℕ) → ¬ StandsAt c.args.self.now.routes c.args.customer v p
out c =
    not_there c.args.self.now.routes c.self.inside.homes.items c.args.customer c.index-home.result.now c.customers.result.now
    (kept (goal.at.returns-in-None-clause-found c).After-customers).homes (home_is (goal.at.returns-in-None-clause-found c).After-customers) (read (goal.at.returns-in-None-clause-found c).After-customers) c.in-None.ensures

-- where it is, it stands there
there : (c : In-Some) → StandsAt c.args.self.now.routes c.args.customer c.index-home.result.now c.in-Some.place
there c =
    let within = home_within (goal.at.returns-in-Some-clause-found c).After-customers in
    let long : length c.self.inside.routes.items ≡ length c.args.self.now.routes =
    sym (length-map c.self.inside.routes.items (λ r. r.value)) ∙ ap (λ (s : PlanState). length s.routes) c.self.view_is in
    stands_in c.args.self.now.routes c.args.customer c.index-home.result.now c.in-Some.place c.customers.result.now
    (omega arith) (omega arith) (read (goal.at.returns-in-Some-clause-found c).After-customers) c.in-Some.ensures.0 c.in-Some.ensures.1

pub returns-in-None-clause-nowhere : goal.returns-in-None-clause-nowhere
returns-in-None-clause-nowhere c = λ (v, (p, s)). out c v p s

pub returns-in-None-clause-found : goal.returns-in-None-clause-found
returns-in-None-clause-found c = λ v p s. absurd (out c v p s)

pub returns-in-Some-clause-stands : goal.returns-in-Some-clause-stands
returns-in-Some-clause-stands c = there c

pub returns-in-Some-clause-found : goal.returns-in-Some-clause-found
returns-in-Some-clause-found c = λ v p s.
    only_there c.args.self.now.customers c.args.self.now.routes c.args.customer c.index-home.result.now c.in-Some.place v p
    (kept (goal.at.returns-in-Some-clause-found c).After-customers).sound (there c) s

pub returns-then-customer-eq0-clause-sound : goal.returns-then-customer-eq0-clause-sound
returns-then-customer-eq0-clause-sound c = plan_as _ c.args.self.now c.self.view_is c.self.invariant.sound

pub returns-then-home-eq0-clause-sound : goal.returns-then-home-eq0-clause-sound
returns-then-home-eq0-clause-sound c = plan_as _ c.args.self.now c.self.view_is c.self.invariant.sound

pub returns-in-None-clause-sound : goal.returns-in-None-clause-sound
returns-in-None-clause-sound c = plan_as _ c.args.self.now c.self.view_is c.self.invariant.sound

pub returns-in-Some-clause-sound : goal.returns-in-Some-clause-sound
returns-in-Some-clause-sound c = plan_as _ c.args.self.now c.self.view_is c.self.invariant.sound
