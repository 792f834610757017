use Rattle.std.proofs.Common.{◌≡◌, ◌-◌, ◌++◌, ◌∷◌, [], length, length-set, refl, sym, ap, subst, ◌∙◌}
use Rattle.std.specs.Prelude.{slice_set}
use Rattle.dimension_core.specs.Setup.{setting}
use Rattle.board_rules.specs.declared.call.Entry.{Entry}
use Rattle.board_rules.specs.History.{state_after}
use Rattle.board_rules.specs.Step.{reply_by}
use Rattle.board_journal.specs.Entries.{proposed, call_of}
use Rattle.board_state.specs.Changes.{Tries}
use Rattle.board_state.specs.Held.{HeldState, Holds, IsReady}
use Rattle.board_core.specs.Kept.{CoreState}
use Rattle.board_core.proofs.Keeping.{kept_same, kept_after, turn_due, work_of, most_of, none_counted, on_err}
use Rattle.board_core.proofs.body.Core.take_proposal.Goals as goal

pub propose-requires : goal.propose-requires
propose-requires g c =
    let s = setting c.args.setup.now in
    subst (λ (x : CoreState). IsReady s x.held) (sym c.self.view_is) (c.is_ready.ensures c.requires.kept c.requires.taken.space)

pub returns-in_err-make_room-clause-kept : goal.returns-in_err-make_room-clause-kept
returns-in_err-make_room-clause-kept g c =
    let s = setting c.args.setup.now in
    kept_same s c.args.self.now _ c.requires.kept
    (c.make_room.ensures.entries ∙ ap (λ (x : CoreState). x.journal) c.self.view_is) (ap (λ (x : CoreState). x.turns) c.self.view_is)
    (subst (λ (x : CoreState). Tries x.held c.self.inside.state) c.self.view_is refl)

pub returns-in_err-verdict-clause-kept : goal.returns-in_err-verdict-clause-kept
returns-in_err-verdict-clause-kept g c =
    let s = setting c.args.setup.now in
    kept_same s c.args.self.now _ c.requires.kept
    (c.make_room.ensures.entries ∙ ap (λ (x : CoreState). x.journal) c.self.view_is) (ap (λ (x : CoreState). x.turns) c.self.view_is)
    (subst (λ (x : CoreState). Tries x.held c.propose.new.self) c.self.view_is (subst (λ (h : HeldState). Tries c.self.inside.state h) (sym c.in_err-verdict.ensures.err) refl))

pub returns-clause-kept : goal.returns-clause-kept
returns-clause-kept g c =
    let s = setting c.args.setup.now in
    let core = c.args.self.now in
    let p = c.args.proposal.now in
    let kept = c.requires.kept in
    let taken = c.requires.taken in
    let state = state_after s core.journal in
    let e : Entry = proposed p c.in_ok-verdict.verdict in
    let due = turn_due (length core.turns) core.journal p.desk p.turn taken.due in
    let holds = subst (λ (x : CoreState). Holds s x.held state) (sym c.self.view_is) kept.held in
    kept_after s core _ e c.histories_grow_by_entries.ensures.legal c.histories_grow_by_entries.ensures.state c.histories_grow_by_entries.ensures.turns kept
    taken.space
    (record { desk_low = taken.low; desk_high = taken.high; turn = due.2; reply = c.in_ok-verdict.ensures.reply state holds })
    (c.push_proposal.ensures.entries ∙ ap (λ es. es ++ e ∷ []) (c.make_room.ensures.entries ∙ ap (λ (x : CoreState). x.journal) c.self.view_is))
    (ap (λ (x : CoreState). slice_set x.turns (p.desk - 1) p.turn) c.self.view_is)
    (c.in_ok-verdict.ensures.holds state holds)

pub returns-clause-work : goal.returns-clause-work
returns-clause-work g c =
    let s = setting c.args.setup.now in
    let state = state_after s c.args.self.now.journal in
    let holds = subst (λ (x : CoreState). Holds s x.held state) (sym c.self.view_is) c.requires.kept.held in
    work_of s c.self.inside.state state (call_of c.args.proposal.now) (reply_by c.in_ok-verdict.verdict) c.args.meter.now c.propose.new.meter holds c.in_ok-verdict.ensures.work

pub returns-clause-most : goal.returns-clause-most
returns-clause-most g c =
    let s = setting c.args.setup.now in
    let state = state_after s c.args.self.now.journal in
    let holds = subst (λ (x : CoreState). Holds s x.held state) (sym c.self.view_is) c.requires.kept.held in
    most_of s c.self.inside.state state (call_of c.args.proposal.now) c.args.meter.now c.propose.new.meter holds c.propose.ensures.most

pub returns-in_err-make_room-clause-untried : goal.returns-in_err-make_room-clause-untried
returns-in_err-make_room-clause-untried g c tried = subst (λ (x : CoreState). x.held.policy.tried ≡ x.held.policy.now) (sym c.self.view_is) tried

pub returns-in_err-verdict-clause-untried : goal.returns-in_err-verdict-clause-untried
returns-in_err-verdict-clause-untried g c tried =
    c.propose.ensures.untried (subst (λ (x : CoreState). x.held.policy.tried ≡ x.held.policy.now) (sym c.self.view_is) tried)

pub returns-clause-untried : goal.returns-clause-untried
returns-clause-untried g c tried =
    c.propose.ensures.untried (subst (λ (x : CoreState). x.held.policy.tried ≡ x.held.policy.now) (sym c.self.view_is) tried)

pub returns-in_err-make_room-clause-most : goal.returns-in_err-make_room-clause-most
returns-in_err-make_room-clause-most g c = none_counted _ _ _

pub returns-in_err-make_room-clause-desks : goal.returns-in_err-make_room-clause-desks
returns-in_err-make_room-clause-desks g c = ap (λ (x : CoreState). length x.turns) c.self.view_is

pub returns-in_err-make_room-clause-err : goal.returns-in_err-make_room-clause-err
returns-in_err-make_room-clause-err g c = on_err _ _ (c.make_room.ensures.entries ∙ ap (λ (x : CoreState). x.journal) c.self.view_is)

pub returns-in_err-verdict-clause-desks : goal.returns-in_err-verdict-clause-desks
returns-in_err-verdict-clause-desks g c = ap (λ (x : CoreState). length x.turns) c.self.view_is

pub returns-in_err-verdict-clause-err : goal.returns-in_err-verdict-clause-err
returns-in_err-verdict-clause-err g c = on_err _ _ (c.make_room.ensures.entries ∙ ap (λ (x : CoreState). x.journal) c.self.view_is)

pub returns-in_err-verdict-clause-most : goal.returns-in_err-verdict-clause-most
returns-in_err-verdict-clause-most g c =
    let s = setting c.args.setup.now in
    let state = state_after s c.args.self.now.journal in
    let holds = subst (λ (x : CoreState). Holds s x.held state) (sym c.self.view_is) c.requires.kept.held in
    most_of s c.self.inside.state state (call_of c.args.proposal.now) c.args.meter.now c.propose.new.meter holds c.propose.ensures.most

pub returns-clause-ok : goal.returns-clause-ok
returns-clause-ok g c =
    c.push_proposal.ensures.entries ∙ ap (λ es. es ++ proposed c.args.proposal.now c.in_ok-verdict.verdict ∷ []) (c.make_room.ensures.entries ∙ ap (λ (x : CoreState). x.journal) c.self.view_is)

pub push_proposal-requires : goal.push_proposal-requires
push_proposal-requires g c = c.in_ok-make_room.ensures.ready

pub overflow_sub-desk : goal.overflow_sub-desk
overflow_sub-desk g c = c.requires.taken.low

pub returns-clause-desks : goal.returns-clause-desks
returns-clause-desks g c =
    length-set c.self.inside.turns.items (c.args.proposal.now.desk - 1) c.args.proposal.now.turn ∙ ap (λ (x : CoreState). length x.turns) c.self.view_is
