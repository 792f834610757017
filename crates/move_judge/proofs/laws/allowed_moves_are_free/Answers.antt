use Rattle.move_judge.proofs.Still.{shift_free, shift_inside_free, swap_free, swap_inside_free, reverse_free, cross_free}
use Rattle.move_judge.proofs.laws.allowed_moves_are_free.Goals as goal

pub returns : goal.returns
returns c = record {
  shift = shift_free c.laws_below.ensures;
  shift_inside = shift_inside_free c.laws_below.ensures;
  swap = swap_free c.laws_below.ensures;
  swap_inside = swap_inside_free c.laws_below.ensures;
  reverse = reverse_free c.laws_below.ensures;
  cross = cross_free c.laws_below.ensures;
}
