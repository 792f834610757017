use Rattle.std.proofs.Common.{refl}
use Rattle.neighbourhood.proofs.search.best_gathered_between.Goals as goal

pub best_of_two-found-requires-clause-search : goal.best_of_two-found-requires-clause-search
best_of_two-found-requires-clause-search g c = record { laws = c.requires.laws; view = c.requires.view; v_kept = c.forget.ensures _ _ _ _; w_kept = c.forget-2.ensures _ _ _ _ }

pub best_of_two-found-requires-clause-gathered : goal.best_of_two-found-requires-clause-gathered
best_of_two-found-requires-clause-gathered g c = c.requires.gathered _ _ _

pub best_of_two-found-requires-clause-apart : goal.best_of_two-found-requires-clause-apart
best_of_two-found-requires-clause-apart g c = c.requires.apart

pub holds_up-requires-clause-search : goal.holds_up-requires-clause-search
holds_up-requires-clause-search g c = record { laws = c.requires.laws; view = c.requires.view; v_kept = c.forget.ensures _ _ _ _; w_kept = c.forget-2.ensures _ _ _ _ }

pub holds_up-requires-clause-unbounded : goal.holds_up-requires-clause-unbounded
holds_up-requires-clause-unbounded g c = refl

pub holds_up-requires-clause-found : goal.holds_up-requires-clause-found
holds_up-requires-clause-found g c = c.best_of_two-found.ensures

pub returns-then-holds_up : goal.returns-then-holds_up
returns-then-holds_up g c = c.holds_up.ensures c.if-holds_up.true

pub keep_between-requires-clause-view : goal.keep_between-requires-clause-view
keep_between-requires-clause-view g c = c.requires.view

pub keep_between-requires-clause-v : goal.keep_between-requires-clause-v
keep_between-requires-clause-v g c = c.requires.v

pub keep_between-requires-clause-w : goal.keep_between-requires-clause-w
keep_between-requires-clause-w g c = c.requires.w

pub keep_between-requires-2-clause-view : goal.keep_between-requires-2-clause-view
keep_between-requires-2-clause-view g c = c.requires.view

pub keep_between-requires-2-clause-v : goal.keep_between-requires-2-clause-v
keep_between-requires-2-clause-v g c = c.requires.w

pub keep_between-requires-2-clause-w : goal.keep_between-requires-2-clause-w
keep_between-requires-2-clause-w g c = c.requires.v

pub best_of_two-requires-clause-search : goal.best_of_two-requires-clause-search
best_of_two-requires-clause-search g c = record { laws = c.requires.laws; view = c.requires.view; v_kept = c.in_ok-keep_between.ensures.kept; w_kept = c.in_ok-keep_between-2.ensures.kept }

pub best_of_two-requires-clause-gathered : goal.best_of_two-requires-clause-gathered
best_of_two-requires-clause-gathered g c = c.requires.gathered _ _ _

pub best_of_two-requires-clause-apart : goal.best_of_two-requires-clause-apart
best_of_two-requires-clause-apart g c = c.requires.apart

pub returns : goal.returns
returns g c = c.best_of_two.ensures
