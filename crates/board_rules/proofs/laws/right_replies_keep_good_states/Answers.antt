use Rattle.board_rules.proofs.Good.{good_opening, good_after}
use Rattle.board_rules.proofs.laws.right_replies_keep_good_states.Goals as goal

pub returns : goal.returns
returns c = record {
  first = good_opening c.laws_below.ensures;
  next = λ s state call reply good right. good_after c.laws_below.ensures s state good call reply right;
}
