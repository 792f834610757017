-- What a front says that does not answer.
use Rattle.std.proofs.Common.{◌≡◌, ◌≢◌, ℕ, Result, Ok, Err, IfOk, OnErr, refl, subst}
use Rattle.std.specs.Result.{IsErr}
use Rattle.board_rules.specs.declared.call.Call.{Call}
use Rattle.board_rules.specs.declared.reply.AskFault.{AskFault}
use Rattle.board_rules.specs.declared.reply.AskFault.TheVariants as asks
use Rattle.board_rules.specs.declared.reply.Denial.{Denial}
use Rattle.board_rules.specs.declared.reply.Fault.{Fault}
use Rattle.board_rules.specs.declared.reply.Fault.TheVariants as faults
use Rattle.board_rules.specs.declared.reply.Reply.{Reply}
use Rattle.board_rules.specs.Step.{reply_by}
use Rattle.board_lines.specs.declared.command.Command.{Command}
use Rattle.board_lines.specs.declared.command.Command.TheVariants.{Submit}
use Rattle.line_engine.specs.Answers.{Answer, Refused, Replied}
use Rattle.line_engine.specs.Fronts.{MayFault, MayRefuse}

module _ {S : Type 0} (step : S → Command → Answer → S → Type 0) (refuses : S → Command → S → Type 0) (old new : S) where
  pub refused_out : (question : Command) (fault : AskFault) → fault ≡ asks.NoMemory → MayRefuse step refuses old question fault new → refuses old question new
  refused_out question fault is h = subst (λ (f : AskFault). MayRefuse step refuses old question f new) is h

  pub refused_so : (question : Command) (fault : AskFault) → fault ≢ asks.NoMemory → MayRefuse step refuses old question fault new → step old question (Refused fault) new
  refused_so question asks.NoMemory other h = absurd (other refl)
  refused_so question asks.NoSession other h = h
  refused_so question asks.NoAccess other h = h
  refused_so question asks.NoUser other h = h
  refused_so question asks.NoRole other h = h
  refused_so question asks.NotThere other h = h

  pub replied_as : (command : Command) (reply is : Reply) → reply ≡ is → step old command (Replied reply) new → step old command (Replied is) new
  replied_as command reply is e h = subst (λ (r : Reply). step old command (Replied r) new) e h

  pub ruled_as : (command : Command) (verdict is : Result ℕ Denial) → verdict ≡ is → step old command (Replied (reply_by verdict)) new → step old command (Replied (reply_by is)) new
  ruled_as command verdict is e h = subst (λ (v : Result ℕ Denial). step old command (Replied (reply_by v)) new) e h

  pub faulted_as : (call : Call) (fault is : Fault) → fault ≡ is → MayFault step refuses old call fault new → MayFault step refuses old call is new
  faulted_as call fault is e h = subst (λ (f : Fault). MayFault step refuses old call f new) e h

-- nothing came of it but a fault
pub no_result : {T E : Type 0} (r : Result T E) (P : T → Type 0) → IsErr r → IfOk r P
no_result (Ok x) P h = absurd (cc)
no_result (Err e) P h = tt

pub lost : {T E Q : Type 0} (r : Result T E) → Q → OnErr r Q
lost (Ok x) q = tt
lost (Err e) q = q
