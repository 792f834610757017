-- That the reply to a call is right, and that what is held afterwards stands for the state after it.
use Rattle.std.specs.Prelude.{Result, IfOk}
use Rattle.std.specs.Option.{option_map}
use Rattle.std.specs.Result.{result_err}
use Rattle.dimension_core.specs.Setting.{Setting}
use Rattle.board_rules.specs.State.{BoardState}
use Rattle.board_rules.specs.declared.call.Call.{Call}
use Rattle.board_rules.specs.declared.reply.Reply.{Reply}
use Rattle.board_rules.specs.declared.hold.HoldRefusal.{HoldRefusal}
use Rattle.board_rules.specs.Holds.{refusal_for}
use Rattle.board_rules.specs.Step.{IsReply, after, refused_by}
use Rattle.board_state.specs.declared.change.Change.{Change}
use Rattle.board_state.specs.declared.change.PinChange.{PinChange}
use Rattle.board_state.specs.Held.{HeldState, Holds}
use Rattle.board_state.specs.Changes.{WillHold}

-- the reply to a judged call on pins
abbrev pub hold_reply : Result PinChange HoldRefusal → Reply
hold_reply judged = refused_by (option_map refusal_for (result_err judged))

-- the reply to a call is right in each state for which what is held stands
abbrev pub IsRightReply : Setting → HeldState → Call → Reply → Type 0
IsRightReply s held call reply = (state : BoardState) → Holds s held state → ∥ IsReply s state call reply ∥₁

-- what is held afterwards stands for the state after the call and its reply
abbrev pub HoldsAfter : Setting → HeldState → HeldState → Call → Reply → Type 0
HoldsAfter s old new call reply = (state : BoardState) → Holds s old state → Holds s new (after state call reply)

-- the same of a call that may run out of memory, with this reply in its result
abbrev pub RepliesRightly : {R E : Type 0} → Setting → HeldState → Call → Result R E → (R → Reply) → Type 0
RepliesRightly s held call result reply = (state : BoardState) → Holds s held state → IfOk result (λ r. ∥ IsReply s state call (reply r) ∥₁)

abbrev pub HoldsNext : {R E : Type 0} → Setting → HeldState → HeldState → Call → Result R E → (R → Reply) → Type 0
HoldsNext s old new call result reply =
    (state : BoardState) → Holds s old state → IfOk result (λ r. Holds s new (after state call (reply r)))

-- and with this reply and this change in its result, where the change is still to be put in place
abbrev pub WillHoldNext : {R E : Type 0} → Setting → HeldState → HeldState → Call → Result R E → (R → Reply × Change) → Type 0
WillHoldNext s old new call result judged =
    (state : BoardState) → Holds s old state → IfOk result (λ r. WillHold s new (judged r).1 (after state call (judged r).0))
