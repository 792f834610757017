use Rattle.board_rules.proofs.Histories.{legal-push, state_after-push, turns_more}
use Rattle.board_rules.proofs.laws.histories_grow_by_entries.Goals as goal

pub returns : goal.returns
returns c = record { legal = legal-push; state = state_after-push; turns = turns_more }
