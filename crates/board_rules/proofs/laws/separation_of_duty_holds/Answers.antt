use Rattle.board_rules.specs.Good.{state_of}
use Rattle.board_rules.proofs.Held.{separated}
use Rattle.board_rules.proofs.Settled.{orderly_state}
use Rattle.board_rules.proofs.laws.separation_of_duty_holds.Goals as goal

pub returns : goal.returns
returns c h =
    let orderly = orderly_state h.opening.setting h.entries in
    separated (state_of h).policy orderly.settled.order orderly.separate
