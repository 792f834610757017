-- The entries for which records stand.
use Rattle.std.specs.Prelude.{ℕ, ◌<◌, List, map, get_or}
use Rattle.board_rules.specs.declared.call.Call.{Call}
use Rattle.board_rules.specs.declared.call.Call.TheVariants as calls
use Rattle.board_rules.specs.declared.call.Entry.{Entry}
use Rattle.board_rules.specs.declared.reply.Denial.TheVariants as denials
use Rattle.board_rules.specs.declared.reply.Reply.{Reply}
use Rattle.board_rules.specs.declared.reply.Reply.TheVariants as replies
use Rattle.board_journal.specs.declared.answer.Answer.{Answer}
use Rattle.board_journal.specs.declared.answer.Answer.TheVariants.{Committed, NoSession, BadVehicle, AccessVehicle, Ahead, Stale, BadPlace, AccessCustomer, Frozen, Pinned, Bound}
use Rattle.board_rules.specs.Holds.{call_of, reply_to}
use Rattle.board_journal.specs.declared.packed.Packed.{Packed}
use Rattle.board_journal.specs.declared.packed.Packed.TheVariants.{Proposal, Hold as HoldRecord, Whole}

abbrev pub reply_of : Answer → Reply
reply_of (Committed version) = replies.Committed version
reply_of NoSession = replies.Denied denials.NoSession
reply_of BadVehicle = replies.Denied denials.BadVehicle
reply_of (AccessVehicle vehicle) = replies.Denied (denials.AccessVehicle vehicle)
reply_of Ahead = replies.Denied denials.Ahead
reply_of (Stale vehicle) = replies.Denied (denials.Stale vehicle)
reply_of BadPlace = replies.Denied denials.BadPlace
reply_of (AccessCustomer vehicle place) = replies.Denied (denials.AccessCustomer vehicle place)
reply_of (Frozen vehicle) = replies.Denied (denials.Frozen vehicle)
reply_of (Pinned vehicle place) = replies.Denied (denials.Pinned vehicle place)
reply_of (Bound vehicle dimension) = replies.Denied (denials.Bound vehicle dimension)

-- stands for what no record names
abbrev pub no_entry : Entry
no_entry = record { desk = 0; turn = 0; call = calls.Pin 0 0; reply = replies.Done }

-- the entry for which a record stands, beside those that stand whole
abbrev pub entry_in : List Entry → Packed → Entry
entry_in whole (Proposal desk turn session base mv answer) = record { desk = desk; turn = turn; call = calls.Propose session base mv; reply = reply_of answer }
entry_in whole (HoldRecord desk turn hold ruling) = record { desk = desk; turn = turn; call = call_of hold; reply = reply_to ruling }
entry_in whole (Whole place) = get_or whole place no_entry

abbrev pub entries_in : List Entry → List Packed → List Entry
entries_in whole records = map (entry_in whole) records

-- a record names none but the first n of them
abbrev pub IsWithin : ℕ → Packed → Type 0
IsWithin n (Proposal desk turn session base mv answer) = Unit {0}
IsWithin n (HoldRecord desk turn hold ruling) = Unit {0}
IsWithin n (Whole place) = place < n
