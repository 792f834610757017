use Rattle.std.proofs.Common.{◌≡◌, ◌∙◌, ◌≤◌, ◌*◌, List, ℕ, All, ap, length, refl, subst, sym}
use Rattle.callback_store.specs.Tables.{table_at}
use Rattle.dimension_core.specs.Setup.{setting}
use Rattle.plan_core.specs.Plan.{route_at}
use Rattle.gathered_ways.specs.Sides.{AlongState, TwoWays}
use Rattle.way_costs.specs.Ways.{stops}
use Rattle.neighbourhood.proofs.Gathers.{goes_along, halves_fit, inside_gathered, inside_summed, some_stops, sums_fit, two_stops}
use Rattle.neighbourhood.proofs.search.Searcher.best_inside.Goals as goal

pub are_empty-requires-clause-v : goal.are_empty-requires-clause-v
are_empty-requires-clause-v g c = (c.requires.v.0, subst (λ (n : ℕ). c.args.v ≤ n) (sym c.requires.view.vehicles) c.requires.v.1)

pub are_empty-requires-clause-w : goal.are_empty-requires-clause-w
are_empty-requires-clause-w g c = (c.requires.v.0, subst (λ (n : ℕ). c.args.v ≤ n) (sym c.requires.view.vehicles) c.requires.v.1)

pub returns-then-are_empty : goal.returns-then-are_empty
returns-then-are_empty g c = c.are_empty.ensures c.if-are_empty.true _ _

pub gather_among-requires-clause-known : goal.gather_among-requires-clause-known
gather_among-requires-clause-known g c = subst (λ (xs : List ℕ). All (λ x. x ≤ (setting c.args.setup.now).customers) xs) (sym c.deref.ensures.value) c.in_ok-fill_stops.ensures.known

pub gather_among-requires-clause-some : goal.gather_among-requires-clause-some
gather_among-requires-clause-some g c = some_stops _ _ _ c.deref.ensures.value c.in_ok-fill_stops.ensures.sized

pub gather_among-requires-clause-short : goal.gather_among-requires-clause-short
gather_among-requires-clause-short g c = subst (λ (xs : List ℕ). length xs ≤ 1002) (sym c.deref.ensures.value) c.in_ok-fill_stops.ensures.short

pub gather-requires-clause-sized : goal.gather-requires-clause-sized
gather-requires-clause-sized g c =
    subst (λ (xs : List ℕ). length xs ≡ length c.fill_stops.new.all.items * length c.fill_stops.new.all.items) (sym (c.as_slice-out.ensures.value ∙ ap (λ (x : TwoWays). x.out) c.ways.view_is))
    (subst (λ (xs : List ℕ). length c.gather_among.new.self.out ≡ length xs * length xs) c.deref.ensures.value c.in_ok-gather_among.ensures.out.counted)

pub gather-requires-clause-depot : goal.gather-requires-clause-depot
gather-requires-clause-depot g c = (stops (route_at c.args.view.now.routes c.args.v), c.in_ok-fill_stops.ensures.is)

pub gather-requires-clause-long : goal.gather-requires-clause-long
gather-requires-clause-long g c = two_stops _ _ c.in_ok-fill_stops.ensures.sized

pub gather-requires-clause-short : goal.gather-requires-clause-short
gather-requires-clause-short g c = c.in_ok-fill_stops.ensures.short

pub split_at-requires : goal.split_at-requires
split_at-requires g c = halves_fit c.fill_stops.new.all.items c.in_ok-gather.ensures.0 c.deref-2.result.now c.len-count.result c.fill_stops.new.all.len (c.deref-2.ensures.value ∙ c.in_ok-gather.ensures.1) c.fill_stops.new.all.ok.0 c.len-count.ensures

pub split_at-requires-2 : goal.split_at-requires-2
split_at-requires-2 g c =
    sums_fit (table_at (setting c.args.setup.now).tables (setting c.args.setup.now).cost) c.fill_stops.new.all.items c.in_ok-gather.ensures.0 c.deref-3.result.now c.gather.new.self c.len-count.result c.fill_stops.new.all.len
    (goes_along (table_at (setting c.args.setup.now).tables (setting c.args.setup.now).cost) c.fill_stops.new.all.items c.deref.result.now c.in_ok-gather.ensures.0 c.as_slice-out.result.now c.gather_among.new.self c.gather.new.self c.deref.ensures.value c.in_ok-gather_among.ensures (c.as_slice-out.ensures.value ∙ ap (λ (x : TwoWays). x.out) c.ways.view_is) c.in_ok-gather.ensures.2)
    c.fill_stops.new.all.ok.0 c.len-count.ensures (c.deref-3.ensures.value ∙ ap (λ (x : AlongState). x.sums) c.along.view_is)

pub best_gathered-requires-clause-gathered : goal.best_gathered-requires-clause-gathered
best_gathered-requires-clause-gathered g c =
    λ bounded kept. inside_gathered _ _ c.fill_stops.new.all.items c.deref.result.now c.in_ok-gather.ensures.0 c.deref-2.result.now c.len-count.result c.fill_stops.new.all.len c.gather_among.new.self c.gather.new.self refl refl c.in_ok-fill_stops.ensures c.deref.ensures.value c.in_ok-gather_among.ensures
    (goes_along (table_at (setting c.args.setup.now).tables (setting c.args.setup.now).cost) c.fill_stops.new.all.items c.deref.result.now c.in_ok-gather.ensures.0 c.as_slice-out.result.now c.gather_among.new.self c.gather.new.self c.deref.ensures.value c.in_ok-gather_among.ensures (c.as_slice-out.ensures.value ∙ ap (λ (x : TwoWays). x.out) c.ways.view_is) c.in_ok-gather.ensures.2)
    c.fill_stops.new.all.ok.0 c.len-count.ensures (c.deref-2.ensures.value ∙ c.in_ok-gather.ensures.1) c.split_at.ensures.front c.split_at.ensures.back c.split_at.ensures.back (ap (λ (x : AlongState). x.most) c.along.view_is)
    (c.as_slice-out.ensures.value ∙ ap (λ (x : TwoWays). x.out) c.ways.view_is) (c.deref-4.ensures.value ∙ ap (λ (x : TwoWays). x.into) c.ways.view_is)

pub best_gathered-requires-clause-sums : goal.best_gathered-requires-clause-sums
best_gathered-requires-clause-sums g c =
    λ bounded kept. inside_summed _ _ c.fill_stops.new.all.items c.in_ok-gather.ensures.0 c.deref-2.result.now c.deref-3.result.now _ _ c.len-count.result c.fill_stops.new.all.len c.gather.new.self
    (goes_along (table_at (setting c.args.setup.now).tables (setting c.args.setup.now).cost) c.fill_stops.new.all.items c.deref.result.now c.in_ok-gather.ensures.0 c.as_slice-out.result.now c.gather_among.new.self c.gather.new.self c.deref.ensures.value c.in_ok-gather_among.ensures (c.as_slice-out.ensures.value ∙ ap (λ (x : TwoWays). x.out) c.ways.view_is) c.in_ok-gather.ensures.2)
    c.fill_stops.new.all.ok.0 c.len-count.ensures (c.deref-2.ensures.value ∙ c.in_ok-gather.ensures.1) c.split_at.ensures.front (c.deref-3.ensures.value ∙ ap (λ (x : AlongState). x.sums) c.along.view_is) c.split_at-2.ensures.front c.split_at-2.ensures.back

pub are_empty-requires-clause-laws : goal.are_empty-requires-clause-laws
are_empty-requires-clause-laws g c = c.requires.laws

pub fill_stops-requires-clause-plan : goal.fill_stops-requires-clause-plan
fill_stops-requires-clause-plan g c = c.requires.view.plan

pub fill_stops-requires-clause-vehicles : goal.fill_stops-requires-clause-vehicles
fill_stops-requires-clause-vehicles g c = c.requires.view.vehicles

pub fill_stops-requires-clause-low : goal.fill_stops-requires-clause-low
fill_stops-requires-clause-low g c = c.requires.v.0

pub fill_stops-requires-clause-high : goal.fill_stops-requires-clause-high
fill_stops-requires-clause-high g c = c.requires.v.1

pub best_gathered-requires-clause-laws : goal.best_gathered-requires-clause-laws
best_gathered-requires-clause-laws g c = c.requires.laws

pub best_gathered-requires-clause-view : goal.best_gathered-requires-clause-view
best_gathered-requires-clause-view g c = c.requires.view

pub best_gathered-requires-clause-v : goal.best_gathered-requires-clause-v
best_gathered-requires-clause-v g c = c.requires.v

pub best_gathered-requires-clause-inside : goal.best_gathered-requires-clause-inside
best_gathered-requires-clause-inside g c = refl

pub returns : goal.returns
returns g c = c.best_gathered.ensures
