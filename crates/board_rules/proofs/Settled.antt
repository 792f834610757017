-- The policy after every history is settled, and keeps separation of duty.
use Rattle.std.proofs.Common.{◌≡◌, ℕ, List, [], ◌∷◌, refl, sym, subst}
use Rattle.separation_core.specs.GroupLaws.{AreSets-none, breaking-none}
use Rattle.policy_core.specs.State.{authorized, counted_all}
use Rattle.policy_core.specs.Opening.{opening}
use Rattle.rbac_core.specs.declared.command.Command.{Command}
use Rattle.dimension_core.specs.Setting.{Setting}
use Rattle.board_rules.specs.declared.call.Call.{Call}
use Rattle.board_rules.specs.declared.call.Call.TheVariants.{Propose, Pin, Unpin, Freeze, Thaw, Policy}
use Rattle.board_rules.specs.declared.call.Entry.{Entry}
use Rattle.board_rules.specs.declared.reply.Reply.{Reply}
use Rattle.board_rules.specs.declared.reply.Reply.TheVariants.{Done, Session, Committed, Denied, Refused}
use Rattle.board_rules.specs.State.{BoardState, opening_state}
use Rattle.board_rules.specs.Policies.{policy_after}
use Rattle.board_rules.specs.Step.{after}
use Rattle.board_rules.proofs.Keeping.{keeps_rest}
use Rattle.board_rules.specs.History.{state_from, state_after}
use Rattle.board_rules.proofs.Orders.{IsSettled, settled, settled_after, settled_first}
use Rattle.board_rules.proofs.Separation.{IsSeparate}
use Rattle.board_rules.proofs.Commands.{separate_after}

-- What is carried from call to call: the policy is settled, and keeps separation of duty.
pub record IsOrderly (s : Setting) (state : BoardState) : Type 0 where
  pub settled : IsSettled s.customers s.vehicles state.policy
  pub separate : IsSeparate state.policy

module _ (s : Setting) where
  orderly_command : (state : BoardState) (session : ℕ) (command : Command) (next : BoardState) → next.policy ≡ policy_after state.policy session command → IsOrderly s state → IsOrderly s next
  orderly_command state session command next is h =
      let after_it = settled_after s.customers s.vehicles state.policy session command h.settled in
      let kept = separate_after state.policy session command h.settled.order (settled s.customers s.vehicles state.policy command h.settled).order h.separate in
      record { settled = subst (IsSettled s.customers s.vehicles) (sym is) after_it; separate = subst IsSeparate (sym is) kept }

  orderly_same : (state next : BoardState) → next.policy ≡ state.policy → IsOrderly s state → IsOrderly s next
  orderly_same state next is h =
      record { settled = subst (IsSettled s.customers s.vehicles) (sym is) h.settled; separate = subst IsSeparate (sym is) h.separate }

  orderly_call : (state : BoardState) (call : Call) (reply : Reply) → IsOrderly s state → IsOrderly s (after state call reply)
  orderly_call state (Policy session command) Done h = orderly_command state session command (after state (Policy session command) Done) refl h
  orderly_call state (Policy session command) (Session n) h = orderly_command state session command (after state (Policy session command) (Session n)) refl h
  orderly_call state (Policy session command) (Committed n) h = h
  orderly_call state (Policy session command) (Denied d) h = h
  orderly_call state (Policy session command) (Refused r) h = h
  orderly_call state (Propose session base mv) reply h = orderly_same state (after state (Propose session base mv) reply) (keeps_rest state (Propose session base mv) reply).0 h
  orderly_call state (Pin session c) reply h = orderly_same state (after state (Pin session c) reply) (keeps_rest state (Pin session c) reply).0 h
  orderly_call state (Unpin session c) reply h = orderly_same state (after state (Unpin session c) reply) (keeps_rest state (Unpin session c) reply).0 h
  orderly_call state (Freeze session v n) reply h = orderly_same state (after state (Freeze session v n) reply) (keeps_rest state (Freeze session v n) reply).0 h
  orderly_call state (Thaw session v n) reply h = orderly_same state (after state (Thaw session v n) reply) (keeps_rest state (Thaw session v n) reply).0 h

  orderly_from : (state : BoardState) (es : List Entry) → IsOrderly s state → IsOrderly s (state_from state es)
  orderly_from state [] h = h
  orderly_from state (e ∷ es) h = orderly_from (after state e.call e.reply) es (orderly_call state e.call e.reply h)

  orderly_first : IsOrderly s (opening_state s)
  orderly_first = record {
    settled = settled_first s.customers s.vehicles;
    separate = record {
      ssd_sets = AreSets-none;
      dsd_sets = AreSets-none;
      ssd = breaking-none (authorized (opening s.customers s.vehicles));
      dsd = breaking-none (counted_all (opening s.customers s.vehicles));
    };
  }

  pub orderly_state : (es : List Entry) → IsOrderly s (state_after s es)
  orderly_state es = orderly_from (opening_state s) es orderly_first
