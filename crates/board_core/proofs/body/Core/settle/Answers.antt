use Rattle.std.proofs.Common.{◌<◌, ◌-◌, ◌++◌, ◌∷◌, [], length, sym, ap, subst, ◌∙◌}
use Rattle.std.specs.Prelude.{slice_set}
use Rattle.board_rules.specs.declared.call.Entry.{Entry}
use Rattle.board_rules.specs.History.{state_after, IsNext}
use Rattle.board_rules.specs.Step.{after}
use Rattle.board_state.specs.Changes.{WillHold, IsGivenUp}
use Rattle.board_core.specs.Kept.{CoreState, history_of}
use Rattle.board_core.specs.Prepared.{PreparedState, Makes}
use Rattle.board_core.proofs.Keeping.{kept_after}
use Rattle.board_core.proofs.body.Core.settle.Goals as goal

pub returns-clause-kept : goal.returns-clause-kept
returns-clause-kept c s kept makes =
    let core = c.args.self.now in
    let i = c.prepared.inside in
    let e : Entry = record { desk = i.desk; turn = i.turn; call = i.call; reply = i.judged.reply } in
    let p : PreparedState = record { of = i.of.value; entry = e; judged = i.judged } in
    let of = ap (λ (q : PreparedState). q.of) c.prepared.view_is ∙ c.requires in
    let made : Makes s p = subst (λ (q : PreparedState). Makes s q) (sym c.prepared.view_is) makes in
    let will = subst (λ (x : CoreState). WillHold s x.held i.judged.change (after (state_after s x.journal) e.call e.reply)) of made.will in
    let held = subst (λ (x : CoreState). WillHold s x.held i.judged.change (after (state_after s core.journal) e.call e.reply)) (sym c.self.view_is) will in
    let space = subst (λ (x : CoreState). length x.journal < s.max_events) of made.space in
    kept_after s core _ e c.histories_grow_by_entries.ensures.legal c.histories_grow_by_entries.ensures.state c.histories_grow_by_entries.ensures.turns kept
    space
    (subst (λ (x : CoreState). IsNext (history_of s x).opening x.journal e) of made.next)
    (c.push.ensures.entries ∙ ap (λ r. c.self.inside.journal.entries ++ record { desk = i.desk; turn = i.turn; call = i.call; reply = r } ∷ []) c.settle-reply.ensures.reply
    ∙ ap (λ (x : CoreState). x.journal ++ e ∷ []) c.self.view_is)
    (ap (λ (x : CoreState). slice_set x.turns (i.desk - 1) i.turn) c.self.view_is)
    (c.settle-reply.ensures.holds s (after (state_after s core.journal) e.call e.reply) held)

pub returns-clause-untried : goal.returns-clause-untried
returns-clause-untried c given =
    let i = c.prepared.inside in
    let change = subst (λ (q : PreparedState). IsGivenUp q.judged.change c.args.self.now.held.policy) (sym c.prepared.view_is) given in
    c.settle-reply.ensures.untried (subst (λ (x : CoreState). IsGivenUp i.judged.change x.held.policy) (sym c.self.view_is) change)
