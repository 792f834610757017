use Rattle.std.proofs.Common.{sym, subst}
use Rattle.std.specs.Prelude.{IfOk}
use Rattle.board_rules.specs.declared.call.Entry.{Entry}
use Rattle.board_state.specs.Differences.{IsDifference}
use Rattle.board_rules.specs.History.{state_after}
use Rattle.board_rules.specs.Step.{after}
use Rattle.board_state.specs.Changes.{WillHold}
use Rattle.board_state.specs.Held.{HeldState, Holds}
use Rattle.board_core.specs.Kept.{IsKept, history_of}
use Rattle.board_core.specs.Prepared.{PreparedState, Makes}
use Rattle.board_core.proofs.prepared.Prepared.difference.Goals as goal

pub returns : goal.returns
returns c s kept makes =
    let i = c.self.inside in
    let e : Entry = record { desk = i.desk; turn = i.turn; call = i.call; reply = i.judged.reply } in
    let p : PreparedState = record { of = i.of.value; entry = e; judged = i.judged } in
    let kept_then : IsKept s p.of = subst (λ (q : PreparedState). IsKept s q.of) (sym c.self.view_is) kept in
    let made : Makes s p = subst (λ (q : PreparedState). Makes s q) (sym c.self.view_is) makes in
    let state = state_after s p.of.journal in
    let next = after state e.call e.reply in
    let holds : Holds s i.judged.of state = subst (λ (h : HeldState). Holds s h state) (sym c.self.invariant.judged) kept_then.held in
    let will : WillHold s i.judged.of i.judged.change next = subst (λ (h : HeldState). WillHold s h i.judged.change next) (sym c.self.invariant.judged) made.will in
    let good = c.legal_histories_leave_good_states.ensures.good (history_of s p.of) kept_then.legal in
    subst (λ (q : PreparedState). IfOk c.difference.result (IsDifference s (state_after s q.of.journal) (after (state_after s q.of.journal) q.entry.call q.entry.reply))) c.self.view_is
    (c.difference.ensures s state next holds good will)
