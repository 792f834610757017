use Rattle.std.proofs.Common.{◌∙◌, ◌≤◌, ℕ, ap, arith, subst, sym}
use Rattle.plan_core.specs.Plan.{route_at}
use Rattle.gathered_ways.specs.Sides.{SidesState, TwoWays}
use Rattle.neighbourhood.proofs.Gathers.{edges_of, gathered_between}
use Rattle.neighbourhood.proofs.search.Searcher.best_between.Goals as goal

pub are_empty-requires-clause-v : goal.are_empty-requires-clause-v
are_empty-requires-clause-v g c = (c.requires.v.0, subst (λ (n : ℕ). c.args.v ≤ n) (sym c.requires.view.vehicles) c.requires.v.1)

pub are_empty-requires-clause-w : goal.are_empty-requires-clause-w
are_empty-requires-clause-w g c = (c.requires.w.0, subst (λ (n : ℕ). c.args.w ≤ n) (sym c.requires.view.vehicles) c.requires.w.1)

pub returns-then-are_empty : goal.returns-then-are_empty
returns-then-are_empty g c = c.are_empty.ensures c.if-are_empty.true _ _

pub parts_of-requires-clause-stops : goal.parts_of-requires-clause-stops
parts_of-requires-clause-stops g c =
    (route_at c.args.view.now.routes c.args.w, c.as_slice-stops.ensures.value ∙ ap (λ (x : SidesState). x.stops) c.sides.view_is ∙ c.in_ok-gather.ensures.stops)

pub parts_of-requires-clause-edges : goal.parts_of-requires-clause-edges
parts_of-requires-clause-edges g c =
    edges_of _ _ _ _ _ (c.as_slice-stops.ensures.value ∙ ap (λ (x : SidesState). x.stops) c.sides.view_is) (c.as_slice-edges.ensures.value ∙ ap (λ (x : SidesState). x.edges) c.sides.view_is) c.in_ok-gather.ensures.edges

pub gather_between-requires-clause-from : goal.gather_between-requires-clause-from
gather_between-requires-clause-from g c = c.parts_of.ensures.from.known

pub gather_between-requires-clause-to : goal.gather_between-requires-clause-to
gather_between-requires-clause-to g c =
    let to = (c.parts_of.ensures.to c.args.w c.requires.w.0 c.requires.w.1 (c.as_slice-stops.ensures.value ∙ ap (λ (x : SidesState). x.stops) c.sides.view_is ∙ c.in_ok-gather.ensures.stops)) in
    to.known

pub gather_between-requires-clause-some : goal.gather_between-requires-clause-some
gather_between-requires-clause-some g c =
    let to = (c.parts_of.ensures.to c.args.w c.requires.w.0 c.requires.w.1 (c.as_slice-stops.ensures.value ∙ ap (λ (x : SidesState). x.stops) c.sides.view_is ∙ c.in_ok-gather.ensures.stops)) in
    let here = c.parts_of.ensures.from.sized in
    let there = to.sized in
    (omega arith, omega arith)

pub gather_between-requires-clause-short : goal.gather_between-requires-clause-short
gather_between-requires-clause-short g c =
    let to = (c.parts_of.ensures.to c.args.w c.requires.w.0 c.requires.w.1 (c.as_slice-stops.ensures.value ∙ ap (λ (x : SidesState). x.stops) c.sides.view_is ∙ c.in_ok-gather.ensures.stops)) in
    (c.parts_of.ensures.from.short, to.short)

pub best_gathered_between-requires-clause-gathered : goal.best_gathered_between-requires-clause-gathered
best_gathered_between-requires-clause-gathered g c =
    λ bounded kept others. gathered_between _ _ c.gather_between.new.self c.parts_of.ensures.from
    (c.parts_of.ensures.to c.args.w c.requires.w.0 c.requires.w.1 (c.as_slice-stops.ensures.value ∙ ap (λ (x : SidesState). x.stops) c.sides.view_is ∙ c.in_ok-gather.ensures.stops))
    c.parts_of.ensures.from_edges c.parts_of.ensures.to_edges c.most_of.ensures.above c.in_ok-gather_between.ensures.ways c.in_ok-gather_between.ensures.floors
    (c.deref.ensures.value ∙ ap (λ (x : TwoWays). x.out) c.ways.view_is) (c.deref-2.ensures.value ∙ ap (λ (x : TwoWays). x.into) c.ways.view_is)

pub are_empty-requires-clause-laws : goal.are_empty-requires-clause-laws
are_empty-requires-clause-laws g c = c.requires.laws

pub gather-requires-clause-plan : goal.gather-requires-clause-plan
gather-requires-clause-plan g c = c.requires.view.plan

pub gather-requires-clause-vehicles : goal.gather-requires-clause-vehicles
gather-requires-clause-vehicles g c = c.requires.view.vehicles

pub gather-requires-clause-v : goal.gather-requires-clause-v
gather-requires-clause-v g c = c.requires.v

pub gather-requires-clause-w : goal.gather-requires-clause-w
gather-requires-clause-w g c = c.requires.w

pub parts_of-requires-clause-plan : goal.parts_of-requires-clause-plan
parts_of-requires-clause-plan g c = c.requires.view.plan

pub parts_of-requires-clause-vehicles : goal.parts_of-requires-clause-vehicles
parts_of-requires-clause-vehicles g c = c.requires.view.vehicles

pub parts_of-requires-clause-v : goal.parts_of-requires-clause-v
parts_of-requires-clause-v g c = c.requires.v

pub best_gathered_between-requires-clause-laws : goal.best_gathered_between-requires-clause-laws
best_gathered_between-requires-clause-laws g c = c.requires.laws

pub best_gathered_between-requires-clause-view : goal.best_gathered_between-requires-clause-view
best_gathered_between-requires-clause-view g c = c.requires.view

pub best_gathered_between-requires-clause-v : goal.best_gathered_between-requires-clause-v
best_gathered_between-requires-clause-v g c = c.requires.v

pub best_gathered_between-requires-clause-w : goal.best_gathered_between-requires-clause-w
best_gathered_between-requires-clause-w g c = c.requires.w

pub best_gathered_between-requires-clause-apart : goal.best_gathered_between-requires-clause-apart
best_gathered_between-requires-clause-apart g c = c.requires.apart

pub returns : goal.returns
returns g c = c.best_gathered_between.ensures
