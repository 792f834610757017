-- How many commits there are after entries.
use Rattle.std.proofs.Common.{◌≡◌, ℕ, ◌+◌, ◌≤◌, List, [], ◌∷◌, ◌++◌, true, length, length-append, append_assoc, take, Option, Some, None, Result, Ok, Err, refl, sym, ap, ◌∙◌, subst, arith}
use Rattle.std.specs.Prelude.{slice_get}
use Rattle.std.proofs.Math.Logic.{∥∥₁_elim}
use Rattle.std.proofs.Props.{props}
use mathlib.Core.List.{IsPrefix}
use Rattle.dimension_core.specs.Setting.{Setting}
use Rattle.move_core.specs.declared.moves.Move.{Move}
use Rattle.move_core.specs.Moves.{named_by}
use Rattle.policy_core.specs.declared.refusal.Refusal.{Refusal as PolicyRefusal}
use Rattle.rbac_core.specs.declared.command.Outcome.{Outcome}
use Rattle.rbac_core.specs.declared.command.Outcome.TheVariants as outcomes
use Rattle.rbac_core.specs.Step.{step}
use Rattle.board_rules.specs.declared.call.Call.{Call}
use Rattle.board_rules.specs.declared.call.Call.TheVariants.{Propose, Pin, Unpin, Freeze, Thaw, Policy}
use Rattle.board_rules.specs.declared.call.Entry.{Entry}
use Rattle.board_rules.specs.declared.reply.Refusal.{Refusal}
use Rattle.board_rules.specs.declared.reply.Reply.{Reply}
use Rattle.board_rules.specs.declared.reply.Reply.TheVariants.{Done, Session, Committed, Denied, Refused}
use Rattle.board_rules.specs.Policies.{reply_of, policy_reply}
use Rattle.board_rules.specs.State.{BoardState}
use Rattle.board_rules.specs.Rules.{basis_of}
use Rattle.board_rules.specs.Pinning.{pin_refusal, unpin_refusal, freeze_refusal, thaw_refusal}
use Rattle.board_rules.specs.Step.{IsReply, after, refused_by}
use Rattle.board_rules.specs.History.{Opening, IsNext, state_from, state_after}
use Rattle.board_lock.specs.Commits.{Legal, Submitted, entry}
use Rattle.board_lock.specs.Verdicts.{is_verdict}

-- a call takes no commit away
no_fewer : (state : BoardState) (call : Call) (reply : Reply) → length state.commits ≤ length (after state call reply).commits
no_fewer state (Propose session base mv) (Committed m) = omega (arith, length-append state.commits (named_by mv ∷ []))
no_fewer state (Propose session base mv) Done = omega arith
no_fewer state (Propose session base mv) (Session m) = omega arith
no_fewer state (Propose session base mv) (Denied d) = omega arith
no_fewer state (Propose session base mv) (Refused r) = omega arith
no_fewer state (Pin session c) Done = omega arith
no_fewer state (Pin session c) _ = omega arith
no_fewer state (Unpin session c) Done = omega arith
no_fewer state (Unpin session c) _ = omega arith
no_fewer state (Freeze session v m) Done = omega arith
no_fewer state (Freeze session v m) _ = omega arith
no_fewer state (Thaw session v m) Done = omega arith
no_fewer state (Thaw session v m) _ = omega arith
no_fewer state (Policy session command) Done = omega arith
no_fewer state (Policy session command) (Session m) = omega arith
no_fewer state (Policy session command) _ = omega arith

from_here : (state : BoardState) (es : List Entry) → length state.commits ≤ length (state_from state es).commits
from_here state [] = omega arith
from_here state (e ∷ es) =
    let one = no_fewer state e.call e.reply in
    let rest = from_here (after state e.call e.reply) es in
    omega (arith, one, rest)

-- only a proposal is committed
no_refusal : (o : Option Refusal) (n : ℕ) → Committed n ≡ refused_by o → ⊥
no_refusal None n e = cc e
no_refusal (Some r) n e = cc e

no_outcome : (r : Result Outcome PolicyRefusal) (n : ℕ) → Committed n ≡ reply_of r → ⊥
no_outcome (Ok outcomes.Done) n e = cc e
no_outcome (Ok (outcomes.Session m)) n e = cc e
no_outcome (Err refusal) n e = cc e

numbered : (s : Setting) (state : BoardState) (call : Call) (n : ℕ) → IsReply s state call (Committed n) → length (after state call (Committed n)).commits ≡ n
unfolding policy_reply
numbered s state (Propose session base mv) n right = length-append state.commits (named_by mv ∷ []) ∙ sym right.0
numbered s state (Pin session c) n right = absurd (no_refusal (pin_refusal s (basis_of state session) c) n right)
numbered s state (Unpin session c) n right = absurd (no_refusal (unpin_refusal s (basis_of state session) c) n right)
numbered s state (Freeze session v m) n right = absurd (no_refusal (freeze_refusal s (basis_of state session) v m) n right)
numbered s state (Thaw session v m) n right = absurd (no_refusal (thaw_refusal s (basis_of state session) v m) n right)
numbered s state (Policy session command) n right = absurd (no_outcome (step state.policy session command).1 n right)

-- the last entry, and those before it
at_end : (es : List Entry) (e : Entry) → (slice_get (es ++ e ∷ []) (length es) ≡ Some e) × (take (length es) (es ++ e ∷ []) ≡ es)
at_end [] e = (refl, refl)
at_end (x ∷ es) e = let r = at_end es e in (r.0, ap (λ xs. x ∷ xs) r.1)

prefix_on : (xs ys zs : List Entry) → IsPrefix xs ys → IsPrefix ys zs → IsPrefix xs zs
prefix_on xs ys zs p q = (p.0 ++ q.0, sym (append_assoc xs p.0 q.0) ∙ (ap (λ w. w ++ q.0) p.1 ∙ q.1))

module _ (go_on : (s : Setting) (es more : List Entry) → state_after s (es ++ more) ≡ state_from (state_after s es) more)
    (push : (s : Setting) (es : List Entry) (e : Entry) → state_after s (es ++ e ∷ []) ≡ after (state_after s es) e.call e.reply) where
  pub never_fall : (s : Setting) (before later : List Entry) → IsPrefix before later → length (state_after s before).commits ≤ length (state_after s later).commits
  never_fall s before later p =
      let there : length (state_after s before).commits ≤ length (state_after s (before ++ p.0)).commits =
      subst (λ (x : BoardState). length (state_after s before).commits ≤ length x.commits) (sym (go_on s before p.0)) (from_here (state_after s before) p.0) in
      subst (λ (xs : List Entry). length (state_after s before).commits ≤ length (state_after s xs).commits) p.1 there

  pub ends_at : (o : Opening) (es : List Entry) (e : Entry) (n : ℕ) → Legal o (es ++ e ∷ []) → e.reply ≡ Committed n → length (state_after o.setting (es ++ e ∷ [])).commits ≡ n
  ends_at o es e n legal is =
      let here = at_end es e in
      let next : IsNext o es e = subst (λ (before : List Entry). IsNext o before e) here.1 (legal (length es) e here.0) in
      let state : BoardState = state_after o.setting es in
      let last : length (after state e.call (Committed n)).commits ≡ n =
      ∥∥₁_elim next.reply (hlevel props) (λ right. numbered o.setting state e.call n (subst (λ (r : Reply). IsReply o.setting state e.call r) is right)) in
      ap (λ (x : BoardState). length x.commits) (push o.setting es e) ∙ (ap (λ (r : Reply). length (after state e.call r).commits) is ∙ last)

  pub in_later : (o : Opening) (desk own n : ℕ) (call : Call) (before seen later : List Entry) → Submitted o desk own call (Committed n) before seen → IsPrefix seen later
      → n ≤ length (state_after o.setting later).commits
  in_later o desk own n call before seen later done p =
      let es : List Entry = before ++ done.between in
      let e : Entry = entry desk (own + 1) call (Committed n) in
      let legal : Legal o (es ++ e ∷ []) = subst (λ (xs : List Entry). Legal o xs) done.after_is done.legal in
      let here : length (state_after o.setting seen).commits ≡ n = ap (λ (xs : List Entry). length (state_after o.setting xs).commits) done.after_is ∙ ends_at o es e n legal refl in
      let rises = never_fall o.setting seen later p in
      omega (arith, here, rises)

  pub in_met : (o : Opening) (desk own n : ℕ) (call : Call) (before seen met later : List Entry) → Submitted o desk own call (Committed n) before seen → IsPrefix seen met → IsPrefix met later
      → n ≤ length (state_after o.setting later).commits
  in_met o desk own n call before seen met later done p q = in_later o desk own n call before seen later done (prefix_on seen met later p q)

-- ---- replies to proposals

verdict_at : (s : Setting) (state : BoardState) (session base : ℕ) (mv : Move) (reply : Reply) → IsReply s state (Propose session base mv) reply → is_verdict reply ≡ true
verdict_at s state session base mv (Committed n) right = refl
verdict_at s state session base mv (Denied denial) right = refl
verdict_at s state session base mv Done right = absurd right
verdict_at s state session base mv (Session n) right = absurd right
verdict_at s state session base mv (Refused refusal) right = absurd right

pub have_verdicts : (o : Opening) (desk own session base : ℕ) (mv : Move) (reply : Reply) (before seen : List Entry) → Submitted o desk own (Propose session base mv) reply before seen → is_verdict reply ≡ true
have_verdicts o desk own session base mv reply before seen done =
    let es : List Entry = before ++ done.between in
    let e : Entry = entry desk (own + 1) (Propose session base mv) reply in
    let legal : Legal o (es ++ e ∷ []) = subst (λ (xs : List Entry). Legal o xs) done.after_is done.legal in
    let here = at_end es e in
    let next : IsNext o es e = subst (λ (b : List Entry). IsNext o b e) here.1 (legal (length es) e here.0) in
    ∥∥₁_elim next.reply (hlevel props) (λ right. verdict_at o.setting (state_after o.setting es) session base mv reply right)
