use Rattle.board_state.proofs.Differences.{both_right}
use Rattle.board_state.proofs.difference.both.Goals as goal

pub returns : goal.returns
returns c = both_right c.args.changes.now c.in_ok-shared.field-0 c.in_ok-shared-2.field-0 c.requires c.in_ok-shared.ensures c.in_ok-shared-2.ensures
