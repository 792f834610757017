use Rattle.std.proofs.Common.{◌≡◌, refl, sym, ap, subst, ◌∙◌}
use Rattle.dimension_core.specs.Setup.{setting}
use Rattle.board_rules.specs.History.{state_after}
use Rattle.board_state.specs.Changes.{Tries}
use Rattle.board_state.specs.Held.{Holds, IsReady}
use Rattle.board_core.specs.Kept.{CoreState}
use Rattle.board_core.proofs.Keeping.{kept_same, makes_of, work_of, most_of, none_counted}
use Rattle.board_core.proofs.body.Core.judge.Goals as goal

pub prepare-requires : goal.prepare-requires
prepare-requires g c =
    let s = setting c.args.setup.now in
    subst (λ (x : CoreState). IsReady s x.held) (sym c.self.view_is) (c.is_ready.ensures c.requires.kept c.requires.taken.space)

pub returns-in_err-make_room-clause-kept : goal.returns-in_err-make_room-clause-kept
returns-in_err-make_room-clause-kept g c =
    let s = setting c.args.setup.now in
    kept_same s c.args.self.now _ c.requires.kept
    (c.make_room.ensures.entries ∙ ap (λ (x : CoreState). x.journal) c.self.view_is) (ap (λ (x : CoreState). x.turns) c.self.view_is)
    (subst (λ (x : CoreState). Tries x.held c.self.inside.state) c.self.view_is refl)

pub returns-in_err-judged-clause-kept : goal.returns-in_err-judged-clause-kept
returns-in_err-judged-clause-kept g c =
    let s = setting c.args.setup.now in
    kept_same s c.args.self.now _ c.requires.kept
    (c.make_room.ensures.entries ∙ ap (λ (x : CoreState). x.journal) c.self.view_is) (ap (λ (x : CoreState). x.turns) c.self.view_is)
    (subst (λ (x : CoreState). Tries x.held c.prepare.new.self) c.self.view_is c.prepare.ensures.kept)

pub returns-clause-kept : goal.returns-clause-kept
returns-clause-kept g c =
    let s = setting c.args.setup.now in
    kept_same s c.args.self.now _ c.requires.kept
    (c.make_room.ensures.entries ∙ ap (λ (x : CoreState). x.journal) c.self.view_is) (ap (λ (x : CoreState). x.turns) c.self.view_is)
    (subst (λ (x : CoreState). Tries x.held c.prepare.new.self) c.self.view_is c.prepare.ensures.kept)

pub returns-clause-makes : goal.returns-clause-makes
returns-clause-makes g c =
    let s = setting c.args.setup.now in
    let state = state_after s c.args.self.now.journal in
    let holds : Holds s c.self.inside.state state = subst (λ (x : CoreState). Holds s x.held state) (sym c.self.view_is) c.requires.kept.held in
    makes_of s c.args.self.now _ _ c.of.ensures
    (c.make_room.ensures.entries ∙ ap (λ (x : CoreState). x.journal) c.self.view_is) (ap (λ (x : CoreState). x.turns) c.self.view_is)
    c.requires.taken.due c.requires.taken.space (c.in_ok-judged.ensures.reply state holds) (c.in_ok-judged.ensures.change state holds)

pub returns-clause-untried : goal.returns-clause-untried
returns-clause-untried g c tried =
    c.in_ok-judged.ensures.untried (subst (λ (x : CoreState). x.held.policy.tried ≡ x.held.policy.now) (sym c.self.view_is) tried)

pub returns-clause-given_up : goal.returns-clause-given_up
returns-clause-given_up g c = c.in_ok-judged.ensures.given_up

pub returns-in_err-make_room-clause-journal : goal.returns-in_err-make_room-clause-journal
returns-in_err-make_room-clause-journal g c =
    c.make_room.ensures.entries ∙ ap (λ (x : CoreState). x.journal) c.self.view_is

pub returns-in_err-make_room-clause-turns : goal.returns-in_err-make_room-clause-turns
returns-in_err-make_room-clause-turns g c = ap (λ (x : CoreState). x.turns) c.self.view_is

pub returns-in_err-judged-clause-journal : goal.returns-in_err-judged-clause-journal
returns-in_err-judged-clause-journal g c = c.make_room.ensures.entries ∙ ap (λ (x : CoreState). x.journal) c.self.view_is

pub returns-in_err-judged-clause-turns : goal.returns-in_err-judged-clause-turns
returns-in_err-judged-clause-turns g c = ap (λ (x : CoreState). x.turns) c.self.view_is

pub returns-clause-journal : goal.returns-clause-journal
returns-clause-journal g c = c.make_room.ensures.entries ∙ ap (λ (x : CoreState). x.journal) c.self.view_is

pub returns-clause-turns : goal.returns-clause-turns
returns-clause-turns g c = ap (λ (x : CoreState). x.turns) c.self.view_is

pub returns-in_err-make_room-clause-most : goal.returns-in_err-make_room-clause-most
returns-in_err-make_room-clause-most g c = none_counted _ _ _

pub returns-in_err-judged-clause-most : goal.returns-in_err-judged-clause-most
returns-in_err-judged-clause-most g c =
    let s = setting c.args.setup.now in
    let state = state_after s c.args.self.now.journal in
    let holds = subst (λ (x : CoreState). Holds s x.held state) (sym c.self.view_is) c.requires.kept.held in
    most_of s c.self.inside.state state c.args.event.call c.args.meter.now c.prepare.new.meter holds c.prepare.ensures.most

pub returns-clause-most : goal.returns-clause-most
returns-clause-most g c =
    let s = setting c.args.setup.now in
    let state = state_after s c.args.self.now.journal in
    let holds = subst (λ (x : CoreState). Holds s x.held state) (sym c.self.view_is) c.requires.kept.held in
    most_of s c.self.inside.state state c.args.event.call c.args.meter.now c.prepare.new.meter holds c.prepare.ensures.most

pub returns-clause-work : goal.returns-clause-work
returns-clause-work g c =
    let s = setting c.args.setup.now in
    let state = state_after s c.args.self.now.journal in
    let holds = subst (λ (x : CoreState). Holds s x.held state) (sym c.self.view_is) c.requires.kept.held in
    work_of s c.self.inside.state state c.args.event.call c.in_ok-judged.judged.reply c.args.meter.now c.prepare.new.meter holds c.in_ok-judged.ensures.work

pub returns-clause-of : goal.returns-clause-of
returns-clause-of g c = c.of.ensures
