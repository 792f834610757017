-- Which entries the journal keeps in 48 bytes: a proposal, or a call on pins or fronts, with its reply, where the desk and the numbers of a
-- denial are at most 65,535.
use Rattle.std.specs.Prelude.{ℕ, Bool, true, false, ◌&&◌, nat_le}
use Rattle.board_rules.specs.declared.call.Call.{Call}
use Rattle.board_rules.specs.declared.call.Call.TheVariants.{Propose}
use Rattle.board_rules.specs.declared.call.Event.{Event}
use Rattle.board_rules.specs.declared.reply.Denial.{Denial}
use Rattle.board_rules.specs.declared.reply.Denial.TheVariants.{AccessVehicle, Stale, AccessCustomer, Frozen, Pinned, Bound}
use Rattle.board_rules.specs.declared.reply.Reply.{Reply}
use Rattle.board_rules.specs.declared.reply.Reply.TheVariants.{Committed, Denied}
use Rattle.board_rules.specs.Holds.{is_hold, is_ruling}

-- whether a number fits into two bytes
abbrev pub is_short : ℕ → Bool
is_short n = nat_le n 65535

abbrev pub is_short_denial : Denial → Bool
is_short_denial (AccessVehicle vehicle) = is_short vehicle
is_short_denial (Stale vehicle) = is_short vehicle
is_short_denial (AccessCustomer vehicle place) = is_short vehicle && is_short place
is_short_denial (Frozen vehicle) = is_short vehicle
is_short_denial (Pinned vehicle place) = is_short vehicle && is_short place
is_short_denial (Bound vehicle dimension) = is_short vehicle && is_short dimension
is_short_denial _ = true

-- whether a reply is one to a proposal, with such numbers; a version may be any number
abbrev pub is_short_reply : Reply → Bool
is_short_reply (Committed version) = true
is_short_reply (Denied denial) = is_short_denial denial
is_short_reply _ = false

abbrev pub is_packed_call : Call → Reply → Bool
is_packed_call (Propose session base mv) reply = is_short_reply reply
is_packed_call call reply = is_hold call && is_ruling reply

abbrev pub is_packed_proposal : ℕ → Reply → Bool
is_packed_proposal desk reply = is_short desk && is_short_reply reply

abbrev pub is_packed : Event → Reply → Bool
is_packed event reply = is_short event.desk && is_packed_call event.call reply
