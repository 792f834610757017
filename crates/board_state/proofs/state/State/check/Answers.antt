use Rattle.std.proofs.Common.{◌∙◌}
use Rattle.board_state.proofs.Stepping.{may_same}
use Rattle.board_state.proofs.state.State.check.Goals as goal

pub returns : goal.returns
returns c s state holds = c.may.ensures.value ∙ may_same s c.args.self.now state holds c.args.session c.args.operation c.args.object
