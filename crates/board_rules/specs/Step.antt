-- One call: which reply is right in a state, and the state that it leaves.
use Rattle.std.specs.Prelude.{ℕ, ◌≡◌, ◌+◌, [], ◌∷◌, ◌++◌, length, Option, Some, None, Result, Ok, Err}
use Rattle.dimension_core.specs.Setting.{Setting}
use Rattle.pin_core.specs.Pins.{with_pin, with_front}
use Rattle.move_core.specs.declared.moves.Move.{Move}
use Rattle.move_core.specs.Moves.{named_by}
use Rattle.board_rules.specs.declared.call.Call.{Call}
use Rattle.board_rules.specs.declared.call.Call.TheVariants.{Propose, Pin, Unpin, Freeze, Thaw, Policy}
use Rattle.board_rules.specs.declared.reply.Denial.{Denial}
use Rattle.board_rules.specs.declared.reply.Refusal.{Refusal}
use Rattle.board_rules.specs.declared.reply.Reply.{Reply}
use Rattle.board_rules.specs.declared.reply.Reply.TheVariants.{Done, Session, Committed, Denied, Refused}
use Rattle.board_rules.specs.Policies.{policy_reply, policy_after}
use Rattle.pin_core.specs.Override.{after_commit}
use Rattle.board_rules.specs.State.{BoardState}
use Rattle.board_rules.specs.Rules.{IsVerdict, basis_of, routes_after}
use Rattle.board_rules.specs.Pinning.{pinned, pin_refusal, unpin_refusal, freeze_refusal, thaw_refusal}

-- the reply to a call, by its refusal or by none
abbrev pub refused_by : Option Refusal → Reply
refused_by None = Done
refused_by (Some refusal) = Refused refusal

-- the reply to a proposal that commits this version, or is denied
abbrev pub reply_by : Result ℕ Denial → Reply
reply_by (Ok version) = Committed version
reply_by (Err denial) = Denied denial

-- the reply is right for the proposal of a session in the state
abbrev pub IsAnswer : Setting → BoardState → ℕ → ℕ → Move → Reply → Type 0
IsAnswer s state session base mv (Committed n) = (n ≡ length state.commits + 1) × IsVerdict s state session base mv None
IsAnswer s state session base mv (Denied denial) = IsVerdict s state session base mv (Some denial)
IsAnswer s state session base mv _ = ⊥

-- the reply is right for the call in the state
abbrev pub IsReply : Setting → BoardState → Call → Reply → Type 0
IsReply s state (Propose session base mv) reply = IsAnswer s state session base mv reply
IsReply s state (Pin session customer) reply = reply ≡ refused_by (pin_refusal s (basis_of state session) customer)
IsReply s state (Unpin session customer) reply = reply ≡ refused_by (unpin_refusal s (basis_of state session) customer)
IsReply s state (Freeze session vehicle n) reply = reply ≡ refused_by (freeze_refusal s (basis_of state session) vehicle n)
IsReply s state (Thaw session vehicle n) reply = reply ≡ refused_by (thaw_refusal s (basis_of state session) vehicle n)
IsReply s state (Policy session command) reply = reply ≡ policy_reply state.policy session command

-- the state after a commit of the move: its routes, one more commit, and no pin of a customer that left its vehicle
abbrev pub committed : BoardState → Move → BoardState
committed state mv = record state {
  routes = routes_after state.routes mv;
  pins = after_commit (routes_after state.routes mv) state.pins;
  commits = state.commits ++ named_by mv ∷ [];
}

-- the state after a call with this reply; a call that is denied or refused changes nothing
abbrev pub after : BoardState → Call → Reply → BoardState
after state (Propose session base mv) (Committed n) = committed state mv
after state (Pin session customer) Done = record state { pins = pinned state.routes customer state.pins }
after state (Unpin session customer) Done = record state { pins = with_pin customer None state.pins }
after state (Freeze session vehicle n) Done = record state { pins = with_front vehicle n state.pins }
after state (Thaw session vehicle n) Done = record state { pins = with_front vehicle n state.pins }
after state (Policy session command) Done = record state { policy = policy_after state.policy session command }
after state (Policy session command) (Session n) = record state { policy = policy_after state.policy session command }
after state _ _ = state
