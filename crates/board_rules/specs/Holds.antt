-- Calls on pins and frozen fronts, and the replies that they may have.
use Rattle.std.specs.Prelude.{Bool, true, false}
use Rattle.board_rules.specs.declared.call.Call.{Call}
use Rattle.board_rules.specs.declared.call.Call.TheVariants as calls
use Rattle.board_rules.specs.declared.reply.Refusal.{Refusal}
use Rattle.board_rules.specs.declared.reply.Refusal.TheVariants as refusals
use Rattle.board_rules.specs.declared.reply.Reply.{Reply}
use Rattle.board_rules.specs.declared.reply.Reply.TheVariants as replies
use Rattle.board_rules.specs.declared.hold.Hold.{Hold}
use Rattle.board_rules.specs.declared.hold.Hold.TheVariants.{Pin, Unpin, Freeze, Thaw}
use Rattle.board_rules.specs.declared.hold.HoldRefusal.{HoldRefusal}
use Rattle.board_rules.specs.declared.hold.HoldRefusal.TheVariants.{NoSession, NoAccess, BadVehicle, BadCustomer, Already, NotThere, NotPlaced, Length}
use Rattle.board_rules.specs.declared.hold.Ruling.{Ruling}
use Rattle.board_rules.specs.declared.hold.Ruling.TheVariants.{Done, Refused}

abbrev pub call_of : Hold → Call
call_of (Pin session customer) = calls.Pin session customer
call_of (Unpin session customer) = calls.Unpin session customer
call_of (Freeze session vehicle n) = calls.Freeze session vehicle n
call_of (Thaw session vehicle n) = calls.Thaw session vehicle n

abbrev pub refusal_for : HoldRefusal → Refusal
refusal_for NoSession = refusals.NoSession
refusal_for NoAccess = refusals.NoAccess
refusal_for BadVehicle = refusals.BadVehicle
refusal_for BadCustomer = refusals.BadCustomer
refusal_for Already = refusals.Already
refusal_for NotThere = refusals.NotThere
refusal_for NotPlaced = refusals.NotPlaced
refusal_for Length = refusals.Length

abbrev pub reply_to : Ruling → Reply
reply_to Done = replies.Done
reply_to (Refused refusal) = replies.Refused (refusal_for refusal)

-- whether a call is one on a pin or on a frozen front
abbrev pub is_hold : Call → Bool
is_hold (calls.Pin session customer) = true
is_hold (calls.Unpin session customer) = true
is_hold (calls.Freeze session vehicle n) = true
is_hold (calls.Thaw session vehicle n) = true
is_hold _ = false

abbrev pub is_hold_refusal : Refusal → Bool
is_hold_refusal refusals.NoSession = true
is_hold_refusal refusals.NoAccess = true
is_hold_refusal refusals.BadVehicle = true
is_hold_refusal refusals.BadCustomer = true
is_hold_refusal refusals.Already = true
is_hold_refusal refusals.NotThere = true
is_hold_refusal refusals.NotPlaced = true
is_hold_refusal refusals.Length = true
is_hold_refusal _ = false

-- whether a reply is one that such a call may have
abbrev pub is_ruling : Reply → Bool
is_ruling replies.Done = true
is_ruling (replies.Refused refusal) = is_hold_refusal refusal
is_ruling _ = false
