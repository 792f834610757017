use Rattle.best_moves.specs.Searched.{searched}
use Rattle.best_moves.proofs.Orders.{best_of_all, none_yet, no_reverses}
use Rattle.best_moves.proofs.search.best_of_two.Goals as goal

pub best_shift-shifted-requires-clause-best : goal.best_shift-shifted-requires-clause-best
best_shift-shifted-requires-clause-best g c =
    rw c.none.ensures (λ mv counts. none_yet (searched c.args.search.now) c.requires.search mv counts.0 counts.1)

pub best_cross-requires-clause-best : goal.best_cross-requires-clause-best
best_cross-requires-clause-best g c =
    no_reverses (searched c.args.search.now) c.requires.search c.best_swap-swapped.result.found c.requires.apart c.best_swap-swapped.ensures

pub returns : goal.returns
returns g c = best_of_all (searched c.args.search.now) c.requires.search c.best_cross.result.found c.best_cross.ensures

pub best_shift-shifted-requires-clause-search : goal.best_shift-shifted-requires-clause-search
best_shift-shifted-requires-clause-search g c = c.requires.search

pub best_shift-shifted-requires-clause-gathered : goal.best_shift-shifted-requires-clause-gathered
best_shift-shifted-requires-clause-gathered g c = c.requires.gathered

pub best_shift-shifted-requires-clause-apart : goal.best_shift-shifted-requires-clause-apart
best_shift-shifted-requires-clause-apart g c = c.requires.apart

pub best_swap-swapped-requires-clause-search : goal.best_swap-swapped-requires-clause-search
best_swap-swapped-requires-clause-search g c = c.requires.search

pub best_swap-swapped-requires-clause-gathered : goal.best_swap-swapped-requires-clause-gathered
best_swap-swapped-requires-clause-gathered g c = c.requires.gathered

pub best_swap-swapped-requires-clause-apart : goal.best_swap-swapped-requires-clause-apart
best_swap-swapped-requires-clause-apart g c = c.requires.apart

pub best_cross-requires-clause-search : goal.best_cross-requires-clause-search
best_cross-requires-clause-search g c = c.requires.search

pub best_cross-requires-clause-gathered : goal.best_cross-requires-clause-gathered
best_cross-requires-clause-gathered g c = c.requires.gathered

pub best_cross-requires-clause-apart : goal.best_cross-requires-clause-apart
best_cross-requires-clause-apart g c = c.requires.apart

pub best_swap-swapped-requires-clause-best : goal.best_swap-swapped-requires-clause-best
best_swap-swapped-requires-clause-best g c = c.best_shift-shifted.ensures
