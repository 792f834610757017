use Rattle.std.proofs.Common.{subst, Result}
use Rattle.board_rules.specs.declared.hold.HoldRefusal.{HoldRefusal}
use Rattle.board_state.specs.declared.change.PinChange.{PinChange}
use Rattle.board_state.specs.Changes.{WillHoldPins}
use Rattle.board_state.proofs.state.State.finish.Goals as goal

pub returns-in-Ok-clause-holds : goal.returns-in-Ok-clause-holds
returns-in-Ok-clause-holds c s next will =
    c.enact.ensures.holds s next
    (subst (λ (x : Result PinChange HoldRefusal). WillHoldPins s c.args.self.now x next) c.in-Ok.is will)

pub returns-in-Err-clause-holds : goal.returns-in-Err-clause-holds
returns-in-Err-clause-holds c s next will =
    subst (λ (x : Result PinChange HoldRefusal). WillHoldPins s c.args.self.now x next) c.in-Err.is will
