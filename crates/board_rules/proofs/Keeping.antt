-- What a call does not name stays.
use Rattle.std.proofs.Common.{◌≡◌, refl}
use Rattle.board_rules.specs.declared.call.Call.{Call}
use Rattle.board_rules.specs.declared.call.Call.TheVariants.{Propose, Pin, Unpin, Freeze, Thaw, Policy}
use Rattle.board_rules.specs.declared.reply.Denial.{Denial}
use Rattle.board_rules.specs.declared.reply.Refusal.{Refusal}
use Rattle.board_rules.specs.declared.reply.Reply.{Reply}
use Rattle.board_rules.specs.declared.reply.Reply.TheVariants.{Done, Session, Committed, Denied, Refused}
use Rattle.board_rules.specs.State.{BoardState}
use Rattle.board_rules.specs.Step.{after}
use Rattle.board_rules.specs.Unchanged.{KeepsTheRest}

pub denied_keeps : (state : BoardState) (call : Call) (denial : Denial) → after state call (Denied denial) ≡ state
denied_keeps state (Propose session base mv) denial = refl
denied_keeps state (Pin session c) denial = refl
denied_keeps state (Unpin session c) denial = refl
denied_keeps state (Freeze session v n) denial = refl
denied_keeps state (Thaw session v n) denial = refl
denied_keeps state (Policy session command) denial = refl

pub refused_keeps : (state : BoardState) (call : Call) (refusal : Refusal) → after state call (Refused refusal) ≡ state
refused_keeps state (Propose session base mv) refusal = refl
refused_keeps state (Pin session c) refusal = refl
refused_keeps state (Unpin session c) refusal = refl
refused_keeps state (Freeze session v n) refusal = refl
refused_keeps state (Thaw session v n) refusal = refl
refused_keeps state (Policy session command) refusal = refl

pub keeps_rest : (state : BoardState) (call : Call) (reply : Reply) → KeepsTheRest state call (after state call reply)
keeps_rest state (Propose session base mv) (Committed n) = (refl, refl)
keeps_rest state (Propose session base mv) _ = (refl, refl)
keeps_rest state (Pin session c) Done = (refl, (refl, refl), refl)
keeps_rest state (Pin session c) _ = (refl, (refl, refl), refl)
keeps_rest state (Unpin session c) Done = (refl, (refl, refl), refl)
keeps_rest state (Unpin session c) _ = (refl, (refl, refl), refl)
keeps_rest state (Freeze session v n) Done = (refl, (refl, refl), refl)
keeps_rest state (Freeze session v n) _ = (refl, (refl, refl), refl)
keeps_rest state (Thaw session v n) Done = (refl, (refl, refl), refl)
keeps_rest state (Thaw session v n) _ = (refl, (refl, refl), refl)
keeps_rest state (Policy session command) Done = ((refl, refl), refl)
keeps_rest state (Policy session command) (Session n) = ((refl, refl), refl)
keeps_rest state (Policy session command) _ = ((refl, refl), refl)
