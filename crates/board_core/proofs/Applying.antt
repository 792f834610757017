-- What applying an event answers, by its call.
use Rattle.std.proofs.Common.{◌≡◌, ◌≢◌, ◌↔◌, ℕ, true, false, ◌++◌, ◌∷◌, [], length, sym, subst, Result, Ok, Err}
use Rattle.std.specs.Prelude.{IfOk, IfErr, OnOk, OnErr, IsErrOf}
use Rattle.callback_store.specs.declared.meter.Meter.{Meter}
use Rattle.dimension_core.specs.Setting.{Setting}
use Rattle.rbac_core.specs.declared.command.Command.{Command}
use Rattle.board_rules.specs.declared.call.Call.{Call}
use Rattle.board_rules.specs.declared.call.Call.TheVariants.{Policy}
use Rattle.board_rules.specs.declared.call.Entry.{Entry}
use Rattle.board_rules.specs.declared.hold.Hold.{Hold}
use Rattle.board_rules.specs.declared.hold.Hold.TheVariants.{Pin, Unpin, Freeze, Thaw}
use Rattle.board_rules.specs.declared.reply.Fault.{Fault}
use Rattle.board_rules.specs.declared.reply.Fault.TheVariants.{OutOfTurn, Full, NoMemory}
use Rattle.board_rules.specs.declared.reply.Reply.{Reply}
use Rattle.board_rules.specs.History.{is_turn, state_after}
use Rattle.board_rules.specs.Holds.{call_of}
use Rattle.board_state.specs.Work.{WorksAtMost, IsWorkOf, call_asks, call_probes}
use Rattle.board_core.specs.Kept.{CoreState, IsKept, history_of}

pub record IsApplied (s : Setting) (old new : CoreState) (desk turn : ℕ) (call : Call) (result : Result Reply Fault) (from to : Meter) : Type 0 where
  pub kept : IsKept s new
  pub ok : IfOk result (λ reply. new.journal ≡ old.journal ++ (let e : Entry = record { desk = desk; turn = turn; call = call; reply = reply } in e ∷ []))
  pub desks : length new.turns ≡ length old.turns
  pub err : OnErr result (new.journal ≡ old.journal)
  pub given_up : (session : ℕ) (command : Command) → call ≡ Policy session command → OnOk result (new.held.policy.tried ≡ new.held.policy.now)
  pub untried : old.held.policy.tried ≡ old.held.policy.now → new.held.policy.tried ≡ new.held.policy.now
  pub out_of_turn : IsErrOf result OutOfTurn ↔ (is_turn (length old.turns) old.journal desk turn ≡ false)
  pub full : IsErrOf result Full ↔ ((is_turn (length old.turns) old.journal desk turn ≡ true) × (length old.journal ≡ s.max_events))
  pub untaken : IfErr result (λ fault. fault ≢ NoMemory → to ≡ from)
  pub work : IfOk result (λ reply. IsWorkOf s (state_after s old.journal).pins (state_after s old.journal).routes call reply from to)
  pub most : WorksAtMost from to (call_asks s (state_after s old.journal).routes call) (call_probes (state_after s old.journal).pins (state_after s old.journal).routes call)

-- a call on a pin or a front is no policy command
pub no_policy : (hold : Hold) (session : ℕ) (command : Command) → call_of hold ≡ Policy session command → ⊥
no_policy (Pin session customer) number command e = absurd cc
no_policy (Unpin session customer) number command e = absurd cc
no_policy (Freeze session vehicle n) number command e = absurd cc
no_policy (Thaw session vehicle n) number command e = absurd cc

-- where nothing is journaled, the history stays
pub history_stays : {R : Type 0} (s : Setting) (old new : CoreState) (result : Result R Fault) → length new.turns ≡ length old.turns → OnErr result (new.journal ≡ old.journal)
    → OnErr result (history_of s new ≡ history_of s old)
history_stays s old new (Ok x) desks journal = tt
history_stays s old new (Err e) desks journal = λ i. record { opening = record { setting = s; desks = desks i }; entries = journal i }

pub hold_applied : (s : Setting) (old new : CoreState) (desk turn : ℕ) (hold : Hold) (call : Call) (result : Result Reply Fault) (from to : Meter) → call ≡ call_of hold → IsKept s new → IfOk result (λ reply. new.journal ≡ old.journal ++ (let e : Entry = record { desk = desk; turn = turn; call = call_of hold; reply = reply } in e ∷ []))
    → length new.turns ≡ length old.turns → OnErr result (new.journal ≡ old.journal)
    → (old.held.policy.tried ≡ old.held.policy.now → new.held.policy.tried ≡ new.held.policy.now)
    → IsErrOf result OutOfTurn ↔ (is_turn (length old.turns) old.journal desk turn ≡ false)
    → IsErrOf result Full ↔ ((is_turn (length old.turns) old.journal desk turn ≡ true) × (length old.journal ≡ s.max_events))
    → IfErr result (λ fault. fault ≢ NoMemory → to ≡ from)
    → IfOk result (λ reply. IsWorkOf s (state_after s old.journal).pins (state_after s old.journal).routes (call_of hold) reply from to)
    → WorksAtMost from to (call_asks s (state_after s old.journal).routes (call_of hold)) (call_probes (state_after s old.journal).pins (state_after s old.journal).routes (call_of hold))
    → IsApplied s old new desk turn call result from to
hold_applied s old new desk turn hold call result from to is kept ok desks err untried out full untaken work most =
    subst (λ (x : Call). IsApplied s old new desk turn x result from to) (sym is)
    (record { kept = kept; ok = ok; desks = desks; err = err; given_up = λ session command e. absurd (no_policy hold session command e); untried = untried; out_of_turn = out; full = full; untaken = untaken; work = work; most = most })
