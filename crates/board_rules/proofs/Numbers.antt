-- The numbers of sessions rise from entry to entry.
use Rattle.std.proofs.Common.{◌≡◌, ◌≤◌, ℕ, zero, suc, Bool, true, false, cond, List, [], ◌∷◌, take, Some, None, refl, sym, subst, arith}
use Rattle.std.specs.Prelude.{nat_eq, is_some}
use Rattle.std.proofs.lemmas.Bool.{false≢true, eqb-true}
use Rattle.policy_core.specs.declared.session.Session.{Session as ASession}
use Rattle.policy_core.specs.State.{PolicyState}
use Rattle.policy_core.specs.Opening.{opening, root_name}
use Rattle.rbac_core.specs.declared.command.Command.{Command}
use Rattle.rbac_core.specs.Step.{step}
use Rattle.rbac_core.specs.Numbers.{AreNumbersUsed, IsNumberedNext, DoNumbersRise}
use Rattle.dimension_core.specs.Setting.{Setting}
use Rattle.board_rules.specs.declared.call.Call.{Call}
use Rattle.board_rules.specs.declared.call.Call.TheVariants.{Propose, Pin, Unpin, Freeze, Thaw, Policy}
use Rattle.board_rules.specs.declared.call.Entry.{Entry}
use Rattle.board_rules.specs.declared.reply.Reply.{Reply}
use Rattle.board_rules.specs.declared.reply.Reply.TheVariants.{Done, Session, Committed, Denied, Refused}
use Rattle.board_rules.specs.State.{BoardState, opening_state}
use Rattle.board_rules.specs.Policies.{policy_after}
use Rattle.board_rules.specs.Step.{after}
use Rattle.board_rules.specs.History.{state_from, state_after}
use Rattle.board_rules.proofs.Keeping.{keeps_rest}

-- the one session of the opening has the last number used
pub opening_used : (customers vehicles : ℕ) → AreNumbersUsed (opening customers vehicles)
opening_used customers vehicles n there = by (nat_eq n 1) refl there
  where
    by : (t : Bool) → nat_eq n 1 ≡ t → is_some {T = ASession} (cond t (Some (record { user = root_name; active = 1 })) None) ≡ true → n ≤ 1
    by true is h = (let same : n ≡ 1 = eqb-true n 1 is in omega (arith, same))
    by false is h = absurd (false≢true h)

module _ (step_law : (p : PolicyState) (session : ℕ) (command : Command) → IsNumberedNext p (step p session command).0)
    (next_law : (p q : PolicyState) → IsNumberedNext p q → DoNumbersRise p q) (same_law : (p : PolicyState) → DoNumbersRise p p)
    (on_law : (p q r : PolicyState) → DoNumbersRise p q → DoNumbersRise q r → DoNumbersRise p r) where
  by_command : (p : PolicyState) (session : ℕ) (command : Command) → DoNumbersRise p (policy_after p session command)
  unfolding policy_after
  by_command p session command = next_law p (step p session command).0 (step_law p session command)

  unchanged : (p q : PolicyState) → q ≡ p → DoNumbersRise p q
  unchanged p q is = subst (DoNumbersRise p) (sym is) (same_law p)

  by_call : (state : BoardState) (call : Call) (reply : Reply) → DoNumbersRise state.policy (after state call reply).policy
  by_call state (Policy session command) Done = by_command state.policy session command
  by_call state (Policy session command) (Session n) = by_command state.policy session command
  by_call state (Policy session command) (Committed n) = same_law state.policy
  by_call state (Policy session command) (Denied d) = same_law state.policy
  by_call state (Policy session command) (Refused r) = same_law state.policy
  by_call state (Propose session base mv) reply = unchanged state.policy (after state (Propose session base mv) reply).policy (keeps_rest state (Propose session base mv) reply).0
  by_call state (Pin session c) reply = unchanged state.policy (after state (Pin session c) reply).policy (keeps_rest state (Pin session c) reply).0
  by_call state (Unpin session c) reply = unchanged state.policy (after state (Unpin session c) reply).policy (keeps_rest state (Unpin session c) reply).0
  by_call state (Freeze session v n) reply = unchanged state.policy (after state (Freeze session v n) reply).policy (keeps_rest state (Freeze session v n) reply).0
  by_call state (Thaw session v n) reply = unchanged state.policy (after state (Thaw session v n) reply).policy (keeps_rest state (Thaw session v n) reply).0

  by_entries : (state : BoardState) (es : List Entry) → DoNumbersRise state.policy (state_from state es).policy
  by_entries state [] = same_law state.policy
  by_entries state (e ∷ es) =
      on_law state.policy (after state e.call e.reply).policy (state_from (after state e.call e.reply) es).policy (by_call state e.call e.reply) (by_entries (after state e.call e.reply) es)

  -- from the state after some entries to that after all
  pub from_prefix : (state : BoardState) (es : List Entry) (k : ℕ) → DoNumbersRise (state_from state (take k es)).policy (state_from state es).policy
  from_prefix state es zero = by_entries state es
  from_prefix state [] (suc k) = same_law state.policy
  from_prefix state (e ∷ es) (suc k) = from_prefix (after state e.call e.reply) es k

  pub from_opening : (s : Setting) (es : List Entry) → DoNumbersRise (opening s.customers s.vehicles) (state_after s es).policy
  from_opening s es = by_entries (opening_state s) es
