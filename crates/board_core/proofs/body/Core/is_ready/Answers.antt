use Rattle.std.proofs.Common.{arith}
use Rattle.dimension_core.specs.Setup.{setting}
use Rattle.board_rules.specs.History.{state_after}
use Rattle.board_core.specs.Kept.{history_of}
use Rattle.board_core.proofs.Keeping.{ready}
use Rattle.board_core.proofs.body.Core.is_ready.Goals as goal

pub returns : goal.returns
returns g c = λ kept space.
    let s = setting c.args.setup.now in
    let core = c.args.self.now in
    let good = c.legal_histories_leave_good_states.ensures.good (history_of s core) kept.legal in
    let few = c.legal_histories_leave_good_states.ensures.commits (history_of s core) kept.legal in
    let most = c.max_events-most.ensures.sound.few_events in
    ready s core.held (state_after s core.journal) kept.held good (omega (arith, few, most, space))
