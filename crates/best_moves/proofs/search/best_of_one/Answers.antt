use Rattle.best_moves.specs.Searched.{searched}
use Rattle.best_moves.proofs.Orders.{best_of_all, none_yet, no_crosses}
use Rattle.best_moves.proofs.search.best_of_one.Goals as goal

pub best_shift_inside-shifted-requires-clause-best : goal.best_shift_inside-shifted-requires-clause-best
best_shift_inside-shifted-requires-clause-best g c =
    rw c.none.ensures (λ mv counts. none_yet (searched c.args.search.now) c.requires.search mv counts.0 counts.1)

pub returns : goal.returns
returns g c =
    let q = searched c.args.search.now in
    best_of_all q c.requires.search c.best_reverse.result.found (no_crosses q c.requires.search c.best_reverse.result.found c.requires.inside c.best_reverse.ensures)

pub best_shift_inside-shifted-requires-clause-search : goal.best_shift_inside-shifted-requires-clause-search
best_shift_inside-shifted-requires-clause-search g c = c.requires.search

pub best_shift_inside-shifted-requires-clause-gathered : goal.best_shift_inside-shifted-requires-clause-gathered
best_shift_inside-shifted-requires-clause-gathered g c = c.requires.gathered

pub best_shift_inside-shifted-requires-clause-inside : goal.best_shift_inside-shifted-requires-clause-inside
best_shift_inside-shifted-requires-clause-inside g c = c.requires.inside

pub best_swap_inside-swapped-requires-clause-search : goal.best_swap_inside-swapped-requires-clause-search
best_swap_inside-swapped-requires-clause-search g c = c.requires.search

pub best_swap_inside-swapped-requires-clause-gathered : goal.best_swap_inside-swapped-requires-clause-gathered
best_swap_inside-swapped-requires-clause-gathered g c = c.requires.gathered

pub best_swap_inside-swapped-requires-clause-inside : goal.best_swap_inside-swapped-requires-clause-inside
best_swap_inside-swapped-requires-clause-inside g c = c.requires.inside

pub best_reverse-requires-clause-search : goal.best_reverse-requires-clause-search
best_reverse-requires-clause-search g c = c.requires.search

pub best_reverse-requires-clause-gathered : goal.best_reverse-requires-clause-gathered
best_reverse-requires-clause-gathered g c = c.requires.gathered

pub best_reverse-requires-clause-inside : goal.best_reverse-requires-clause-inside
best_reverse-requires-clause-inside g c = c.requires.inside

pub best_swap_inside-swapped-requires-clause-best : goal.best_swap_inside-swapped-requires-clause-best
best_swap_inside-swapped-requires-clause-best g c = c.best_shift_inside-shifted.ensures

pub best_reverse-requires-clause-sums : goal.best_reverse-requires-clause-sums
best_reverse-requires-clause-sums g c = c.requires.sums

pub best_reverse-requires-clause-best : goal.best_reverse-requires-clause-best
best_reverse-requires-clause-best g c = c.best_swap_inside-swapped.ensures
