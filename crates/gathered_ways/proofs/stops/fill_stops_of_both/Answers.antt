use Rattle.gathered_ways.proofs.Rooms.{both_fit, both_more_fit}
use Rattle.std.proofs.lemmas.Result.{err_from_is_err_and}
use Rattle.std.proofs.Common.{◌≡◌, ◌∙◌, [], ◌∷◌, ◌++◌, List, ℕ, ap, subst, sym, ◌≤◌}
use Rattle.dimension_core.specs.Setup.{setting}
use Rattle.plan_core.specs.Plan.{route_at}
use Rattle.gathered_ways.specs.Sides.{stops_of_both}
use Rattle.gathered_ways.proofs.AllStops.{pushed_both, known_both}
use Rattle.gathered_ways.proofs.stops.fill_stops_of_both.Goals as goal

are_both : (g : _) (c : goal.In_ok-push g) → c.push.new.self.items ≡ stops_of_both (route_at c.args.view.now.routes c.args.v) (route_at c.args.view.now.routes c.args.w)
are_both g c =
    pushed_both _ _ _ _ _
    (c.in_ok-begin_stops.ensures ∙ ap (λ (r : List ℕ). 0 ∷ (r ++ 0 ∷ [])) c.customers-first.ensures)
    (c.in_ok-extend_from_slice.ensures.items ∙ ap (λ (q : List ℕ). c.begin_stops.new.all.items ++ q) c.customers-second.ensures) c.in_ok-push.ensures.items

pub returns-clause-stops : goal.returns-clause-stops
returns-clause-stops g c = are_both g c

pub returns-clause-known : goal.returns-clause-known
returns-clause-known g c =
    known_both c.routes_are_known.ensures (setting c.args.setup.now).customers c.args.view.now.routes c.args.v c.args.w _ c.requires.plan (are_both g c)

pub customers-first-requires-clause-low : goal.customers-first-requires-clause-low
customers-first-requires-clause-low g c = c.requires.v.0

pub customers-first-requires-clause-high : goal.customers-first-requires-clause-high
customers-first-requires-clause-high g c = subst (λ (n : ℕ). c.args.v ≤ n) (sym c.requires.vehicles) c.requires.v.1

pub customers-second-requires-clause-low : goal.customers-second-requires-clause-low
customers-second-requires-clause-low g c = c.requires.w.0

pub customers-second-requires-clause-high : goal.customers-second-requires-clause-high
customers-second-requires-clause-high g c = subst (λ (n : ℕ). c.args.w ≤ n) (sym c.requires.vehicles) c.requires.w.1

pub overflow_add-first : goal.overflow_add-first
overflow_add-first g c = both_fit _ _ _ _ _ c.customers-first.ensures c.customers-second.ensures (c.routes_are_known.ensures.short _ _ c.args.v c.requires.plan) (c.routes_are_known.ensures.short _ _ c.args.w c.requires.plan) c.customers-customers.ensures.sound.few_customers

pub overflow_add-first-2 : goal.overflow_add-first-2
overflow_add-first-2 g c = both_more_fit _ _ _ _ _ c.customers-first.ensures c.customers-second.ensures (c.routes_are_known.ensures.short _ _ c.args.v c.requires.plan) (c.routes_are_known.ensures.short _ _ c.args.w c.requires.plan) c.customers-customers.ensures.sound.few_customers

pub returns-in_err-begin_stops-clause-stops : goal.returns-in_err-begin_stops-clause-stops
returns-in_err-begin_stops-clause-stops g c = let p = err_from_is_err_and c.from_residual.result c.from_residual.ensures.1 in rw p.1 tt

pub returns-in_err-begin_stops-clause-known : goal.returns-in_err-begin_stops-clause-known
returns-in_err-begin_stops-clause-known g c = let p = err_from_is_err_and c.from_residual.result c.from_residual.ensures.1 in rw p.1 tt

pub returns-in_err-extend_from_slice-clause-stops : goal.returns-in_err-extend_from_slice-clause-stops
returns-in_err-extend_from_slice-clause-stops g c = let p = err_from_is_err_and c.from_residual-in_err-extend_from_slice.result c.from_residual-in_err-extend_from_slice.ensures.1 in rw p.1 tt

pub returns-in_err-extend_from_slice-clause-known : goal.returns-in_err-extend_from_slice-clause-known
returns-in_err-extend_from_slice-clause-known g c = let p = err_from_is_err_and c.from_residual-in_err-extend_from_slice.result c.from_residual-in_err-extend_from_slice.ensures.1 in rw p.1 tt

pub returns-in_err-push-clause-stops : goal.returns-in_err-push-clause-stops
returns-in_err-push-clause-stops g c = let p = err_from_is_err_and c.from_residual-in_err-push.result c.from_residual-in_err-push.ensures.1 in rw p.1 tt

pub returns-in_err-push-clause-known : goal.returns-in_err-push-clause-known
returns-in_err-push-clause-known g c = let p = err_from_is_err_and c.from_residual-in_err-push.result c.from_residual-in_err-push.ensures.1 in rw p.1 tt
