use Rattle.std.proofs.Common.{refl, sym}
use Rattle.neighbourhood.proofs.Gathers.{kept_alone}
use Rattle.neighbourhood.proofs.search.best_gathered.Goals as goal

pub best_of_one-found-requires-clause-search : goal.best_of_one-found-requires-clause-search
best_of_one-found-requires-clause-search g c = record { laws = c.requires.laws; view = c.requires.view; v_kept = c.forget.ensures _ _ _ _; w_kept = c.forget.ensures _ _ _ _ }

pub best_of_one-found-requires-clause-gathered : goal.best_of_one-found-requires-clause-gathered
best_of_one-found-requires-clause-gathered g c = c.requires.gathered _ _

pub best_of_one-found-requires-clause-inside : goal.best_of_one-found-requires-clause-inside
best_of_one-found-requires-clause-inside g c = sym c.requires.inside

pub best_of_one-found-requires-clause-sums : goal.best_of_one-found-requires-clause-sums
best_of_one-found-requires-clause-sums g c = c.requires.sums _ _

pub holds_up-requires-clause-search : goal.holds_up-requires-clause-search
holds_up-requires-clause-search g c = record { laws = c.requires.laws; view = c.requires.view; v_kept = c.forget.ensures _ _ _ _; w_kept = c.forget.ensures _ _ _ _ }

pub holds_up-requires-clause-unbounded : goal.holds_up-requires-clause-unbounded
holds_up-requires-clause-unbounded g c = refl

pub holds_up-requires-clause-found : goal.holds_up-requires-clause-found
holds_up-requires-clause-found g c = c.best_of_one-found.ensures

pub returns-then-holds_up : goal.returns-then-holds_up
returns-then-holds_up g c = c.holds_up.ensures c.if-holds_up.true

pub keep_alone-requires-clause-view : goal.keep_alone-requires-clause-view
keep_alone-requires-clause-view g c = c.requires.view

pub keep_alone-requires-clause-v : goal.keep_alone-requires-clause-v
keep_alone-requires-clause-v g c = c.requires.v

pub best_of_one-requires-clause-search : goal.best_of_one-requires-clause-search
best_of_one-requires-clause-search g c = let kept = kept_alone _ _ _ _ _ c.requires.inside c.in_ok-keep_alone.ensures.kept in record { laws = c.requires.laws; view = c.requires.view; v_kept = kept.0; w_kept = kept.1 }

pub best_of_one-requires-clause-gathered : goal.best_of_one-requires-clause-gathered
best_of_one-requires-clause-gathered g c = c.requires.gathered _ _

pub best_of_one-requires-clause-inside : goal.best_of_one-requires-clause-inside
best_of_one-requires-clause-inside g c = sym c.requires.inside

pub best_of_one-requires-clause-sums : goal.best_of_one-requires-clause-sums
best_of_one-requires-clause-sums g c = c.requires.sums _ _

pub returns : goal.returns
returns g c = c.best_of_one.ensures
