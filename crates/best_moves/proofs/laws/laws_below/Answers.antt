use Rattle.best_moves.proofs.laws.laws_below.Goals as goal

pub returns : goal.returns
returns c = record {
  possible = c.moves_are_possible.ensures.moves;
  saves = c.moves_save.ensures;
  free = c.allowed_moves_are_free.ensures;
  bounds = c.bounds_only_forbid.ensures;
}
