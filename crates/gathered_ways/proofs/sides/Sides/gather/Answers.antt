use Rattle.gathered_ways.proofs.Rooms.{both_some}
use Rattle.std.proofs.lemmas.Result.{err_from_is_err_and}
use Rattle.dimension_core.specs.Setup.{setting}
use Rattle.std.proofs.Common.{ℕ, List, All, subst, sym, ◌≤◌, ◌∙◌}
use Rattle.gathered_ways.proofs.sides.Sides.gather.Goals as goal

pub fill_stops_of_both-requires-clause-plan : goal.fill_stops_of_both-requires-clause-plan
fill_stops_of_both-requires-clause-plan g c = c.requires.plan

pub fill_stops_of_both-requires-clause-vehicles : goal.fill_stops_of_both-requires-clause-vehicles
fill_stops_of_both-requires-clause-vehicles g c = c.requires.vehicles

pub fill_stops_of_both-requires-clause-v : goal.fill_stops_of_both-requires-clause-v
fill_stops_of_both-requires-clause-v g c = c.requires.v

pub fill_stops_of_both-requires-clause-w : goal.fill_stops_of_both-requires-clause-w
fill_stops_of_both-requires-clause-w g c = c.requires.w

pub fill_edges-requires-clause-known : goal.fill_edges-requires-clause-known
fill_edges-requires-clause-known g c = subst (λ (xs : List ℕ). All (λ n. n ≤ (setting c.args.setup.now).customers) xs) (sym c.deref.ensures.value) c.in_ok-fill_stops_of_both.ensures.known

pub fill_edges-requires-clause-some : goal.fill_edges-requires-clause-some
fill_edges-requires-clause-some g c = both_some _ _ _ (c.deref.ensures.value ∙ c.in_ok-fill_stops_of_both.ensures.stops)

pub returns-in_err-fill_stops_of_both : goal.returns-in_err-fill_stops_of_both
returns-in_err-fill_stops_of_both g c = let p = err_from_is_err_and c.from_residual.result c.from_residual.ensures.1 in rw p.1 tt
