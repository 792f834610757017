use Rattle.std.proofs.Common.{ap}
use Rattle.std.proofs.lemmas.Bool.{false≢true}
use Rattle.board_rules.specs.declared.reply.Reply.TheVariants.{Refused}
use Rattle.board_state.proofs.Commanding.{says_other}
use Rattle.board_state.proofs.commands.refused_by.Goals as goal

pub returns-in-Ok-clause-due : goal.returns-in-Ok-clause-due
returns-in-Ok-clause-due c due says = says_other c.args.refusal due says (λ none. false≢true (c.in-Ok.ensures.err.1 none))

pub returns-in-Ok-clause-reply : goal.returns-in-Ok-clause-reply
returns-in-Ok-clause-reply c = ap Refused c.in-Ok.ensures.ok
