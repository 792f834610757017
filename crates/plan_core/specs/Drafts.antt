-- New routes as drafts: what stays of a vehicle's route, and what follows.
use Rattle.std.specs.Prelude.{ℕ, ◌≤◌, List, ◌++◌, length, map, take, All}
use Rattle.plan_core.specs.Plan.{Changes, route_at, with_routes}

-- the new route of a vehicle: this many of the first customers of its route, and the rest
pub record DraftState : Type 0 where
  pub vehicle : ℕ
  pub kept : ℕ
  pub rest : List ℕ

-- the new route that a draft makes of the vehicle's
abbrev pub drafted : List (List ℕ) → DraftState → List ℕ
drafted routes d = take d.kept (route_at routes d.vehicle) ++ d.rest

-- drafts as new routes
abbrev pub drafts_of : List (List ℕ) → List DraftState → Changes
drafts_of routes drafts = map (λ d. (d.vehicle, drafted routes d)) drafts

-- the routes after each named vehicle got its new one
abbrev pub with_drafts : List DraftState → List (List ℕ) → List (List ℕ)
with_drafts drafts routes = with_routes (drafts_of routes drafts) routes

-- each draft keeps no more customers than its vehicle's route has
abbrev pub AreFrontsWithin : List (List ℕ) → List DraftState → Type 0
AreFrontsWithin routes drafts = All (λ d. d.kept ≤ length (route_at routes d.vehicle)) drafts

-- ---- the same of new routes in any form, by the draft that each is

abbrev pub routes_by : {R : Type 0} → (R → DraftState) → List (List ℕ) → List R → Changes
routes_by draft routes new = map (λ r. ((draft r).vehicle, drafted routes (draft r))) new

abbrev pub with_new : {R : Type 0} → (R → DraftState) → List R → List (List ℕ) → List (List ℕ)
with_new draft new routes = with_routes (routes_by draft routes new) routes

abbrev pub DoFrontsStay : {R : Type 0} → (R → DraftState) → List (List ℕ) → List R → Type 0
DoFrontsStay draft routes new = All (λ r. (draft r).kept ≤ length (route_at routes (draft r).vehicle)) new
