use Rattle.board_rules.specs.State.{opening_state}
use Rattle.board_rules.proofs.Histories.{state_from-append, turns_of-append}
use Rattle.board_rules.proofs.laws.histories_go_on.Goals as goal

pub returns : goal.returns
returns c = record { from = state_from-append; state = λ s es more. state_from-append (opening_state s) es more; turns = turns_of-append }
