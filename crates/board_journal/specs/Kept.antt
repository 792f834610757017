-- The entry for which a value stands that a journal lends.
use Rattle.board_rules.specs.declared.call.Call.TheVariants.{Propose}
use Rattle.board_rules.specs.declared.call.Entry.{Entry}
use Rattle.board_journal.specs.declared.kept.Kept.{Kept}
use Rattle.board_journal.specs.declared.kept.Kept.TheVariants.{Proposal, Hold, Whole}
use Rattle.board_rules.specs.Holds.{call_of, reply_to}
use Rattle.board_journal.specs.Records.{reply_of}

abbrev pub kept_entry : Kept → Entry
kept_entry (Proposal desk turn session base mv answer) = record { desk = desk; turn = turn; call = Propose session base mv.now; reply = reply_of answer }
kept_entry (Hold desk turn hold ruling) = record { desk = desk; turn = turn; call = call_of hold; reply = reply_to ruling }
kept_entry (Whole entry) = entry.now
