-- The texts of replies and faults.
use Rattle.std.specs.Prelude.{◌≡◌, ℕ, zero, suc, List, [], ◌∷◌, ◌++◌, codes}
use Rattle.std.specs.Fmt.{decimal}
use Rattle.board_rules.specs.declared.reply.Denial.{Denial}
use Rattle.board_rules.specs.declared.reply.Denial.TheVariants as denials
use Rattle.board_rules.specs.declared.reply.Refusal.{Refusal}
use Rattle.board_rules.specs.declared.reply.Refusal.TheVariants as refusals
use Rattle.board_rules.specs.declared.reply.Reply.{Reply}
use Rattle.board_rules.specs.declared.reply.Reply.TheVariants.{Done, Session, Committed, Denied, Refused}
use Rattle.board_rules.specs.declared.reply.Fault.{Fault}
use Rattle.board_rules.specs.declared.reply.Fault.TheVariants as faults
use Rattle.board_rules.specs.declared.reply.AskFault.{AskFault}
use Rattle.board_rules.specs.declared.reply.AskFault.TheVariants as asks
use Rattle.board_lines.specs.declared.command.LineFault.{LineFault}
use Rattle.board_lines.specs.declared.command.LineFault.TheVariants as lines

-- the old text, and then a prefix of what was to be appended
pub record AppendsPrefix (old text new : List ℕ) : Type 0 where
  pub part : List ℕ
  pub rest : List ℕ
  pub whole : text ≡ part ++ rest
  pub grew : new ≡ old ++ part

-- a line with its line end
abbrev pub ended : List ℕ → List ℕ
ended line = line ++ 10 ∷ []

-- the digits of a number, and none for 0: those that stand before other digits
abbrev pub leading : ℕ → List ℕ
leading zero = []
leading (suc n) = decimal (suc n)

-- a space and the number
abbrev pub spaced : ℕ → List ℕ
spaced n = 32 ∷ decimal n

-- ---- replies, without a line end

abbrev pub denial_text : Denial → List ℕ
denial_text denials.NoSession = codes "denied no-session"
denial_text denials.BadVehicle = codes "denied bad-vehicle"
denial_text (denials.AccessVehicle vehicle) = codes "denied access vehicle" ++ spaced vehicle
denial_text denials.Ahead = codes "denied ahead"
denial_text (denials.Stale vehicle) = codes "denied stale" ++ spaced vehicle
denial_text denials.BadPlace = codes "denied bad-place"
denial_text (denials.AccessCustomer vehicle place) = codes "denied access customer" ++ (spaced vehicle ++ spaced place)
denial_text (denials.Frozen vehicle) = codes "denied frozen" ++ spaced vehicle
denial_text (denials.Pinned vehicle place) = codes "denied pinned" ++ (spaced vehicle ++ spaced place)
denial_text (denials.Bound vehicle dimension) = codes "denied bound" ++ (spaced vehicle ++ spaced dimension)

abbrev pub refusal_text : Refusal → List ℕ
refusal_text refusals.NoSession = codes "refused no-session"
refusal_text refusals.NoAccess = codes "refused no-access"
refusal_text refusals.BadVehicle = codes "refused bad-vehicle"
refusal_text refusals.BadCustomer = codes "refused bad-customer"
refusal_text refusals.NoUser = codes "refused no-user"
refusal_text refusals.NoRole = codes "refused no-role"
refusal_text refusals.NoSet = codes "refused no-set"
refusal_text refusals.BadObject = codes "refused bad-object"
refusal_text refusals.Already = codes "refused already"
refusal_text refusals.NotThere = codes "refused not-there"
refusal_text refusals.NotAuthorized = codes "refused not-authorized"
refusal_text refusals.Cycle = codes "refused cycle"
refusal_text refusals.InSet = codes "refused in-set"
refusal_text refusals.Number = codes "refused number"
refusal_text (refusals.Ssd name) = codes "refused ssd " ++ name
refusal_text (refusals.Dsd name) = codes "refused dsd " ++ name
refusal_text refusals.Full = codes "refused full"
refusal_text refusals.NotPlaced = codes "refused not-placed"
refusal_text refusals.Length = codes "refused length"

abbrev pub reply_text : Reply → List ℕ
reply_text Done = codes "done"
reply_text (Session number) = codes "session" ++ spaced number
reply_text (Committed version) = codes "committed" ++ spaced version
reply_text (Denied denial) = denial_text denial
reply_text (Refused refusal) = refusal_text refusal

-- ---- faults, without a line end; running out of memory has no text, since it ends the run

abbrev pub fault_text : Fault → List ℕ
fault_text faults.OutOfTurn = codes "fault out-of-turn"
fault_text faults.Full = codes "fault full"
fault_text faults.NoMemory = []

abbrev pub ask_fault_text : AskFault → List ℕ
ask_fault_text asks.NoSession = codes "refused no-session"
ask_fault_text asks.NoAccess = codes "refused no-access"
ask_fault_text asks.NoUser = codes "refused no-user"
ask_fault_text asks.NoRole = codes "refused no-role"
ask_fault_text asks.NotThere = codes "refused not-there"
ask_fault_text asks.NoMemory = []

abbrev pub line_fault_text : LineFault → List ℕ
line_fault_text lines.Number = codes "bad number"
line_fault_text lines.Word = codes "bad word"
line_fault_text lines.Count = codes "bad count"
line_fault_text lines.Name = codes "bad name"
line_fault_text lines.Op = codes "bad op"
line_fault_text lines.Object = codes "bad object"
