-- Which replies are verdicts on a proposal.
use Rattle.std.specs.Prelude.{Bool, true, false}
use Rattle.board_rules.specs.declared.reply.Reply.{Reply}
use Rattle.board_rules.specs.declared.reply.Reply.TheVariants.{Committed, Denied}

abbrev pub is_verdict : Reply → Bool
is_verdict (Committed version) = true
is_verdict (Denied denial) = true
is_verdict _ = false
