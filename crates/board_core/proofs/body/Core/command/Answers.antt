use Rattle.std.proofs.Common.{◌≡◌, ◌-◌, ◌++◌, ◌∷◌, [], length, length-set, refl, sym, ap, subst, ◌∙◌}
use Rattle.std.specs.Prelude.{slice_set}
use Rattle.dimension_core.specs.Setup.{setting}
use Rattle.board_rules.specs.declared.call.Entry.{Entry}
use Rattle.board_rules.specs.History.{state_after}
use Rattle.board_journal.specs.Entries.{commanded}
use Rattle.permission_table.specs.Compiled.{AreCompiled, HasSizes}
use Rattle.board_state.specs.Changes.{Tries}
use Rattle.board_state.specs.Held.{Holds}
use Rattle.board_core.specs.Kept.{CoreState}
use Rattle.board_core.proofs.Keeping.{kept_same, kept_after, turn_due, none_counted, on_err}
use Rattle.board_core.proofs.body.Core.command.Goals as goal

pub command-requires-clause-compiled : goal.command-requires-clause-compiled
command-requires-clause-compiled g c =
    subst (λ (x : CoreState). ∥ AreCompiled x.held.tables x.held.policy.now ∥₁) (sym c.self.view_is)
    (c.is_ready.ensures c.requires.kept c.requires.taken.space).compiled

pub command-requires-clause-sizes : goal.command-requires-clause-sizes
command-requires-clause-sizes g c =
    subst (λ (x : CoreState). HasSizes x.held.policy.now x.held.tables) (sym c.self.view_is)
    (c.is_ready.ensures c.requires.kept c.requires.taken.space).sizes

pub returns-in_err-make_room-clause-kept : goal.returns-in_err-make_room-clause-kept
returns-in_err-make_room-clause-kept g c =
    let s = setting c.args.setup.now in
    kept_same s c.args.self.now _ c.requires.kept
    (c.make_room.ensures.entries ∙ ap (λ (x : CoreState). x.journal) c.self.view_is) (ap (λ (x : CoreState). x.turns) c.self.view_is)
    (subst (λ (x : CoreState). Tries x.held c.self.inside.state) c.self.view_is refl)

pub returns-in_err-reply-clause-kept : goal.returns-in_err-reply-clause-kept
returns-in_err-reply-clause-kept g c =
    let s = setting c.args.setup.now in
    kept_same s c.args.self.now _ c.requires.kept
    (c.make_room.ensures.entries ∙ ap (λ (x : CoreState). x.journal) c.self.view_is) (ap (λ (x : CoreState). x.turns) c.self.view_is)
    (subst (λ (x : CoreState). Tries x.held c.command.new.self) c.self.view_is c.in_err-reply.ensures.err)

pub returns-clause-kept : goal.returns-clause-kept
returns-clause-kept g c =
    let s = setting c.args.setup.now in
    let core = c.args.self.now in
    let desk = c.args.desk in
    let turn = c.args.turn in
    let kept = c.requires.kept in
    let taken = c.requires.taken in
    let state = state_after s core.journal in
    let e : Entry = commanded desk turn c.args.session c.args.command c.in_ok-reply.reply in
    let due = turn_due (length core.turns) core.journal desk turn taken.due in
    let holds = subst (λ (x : CoreState). Holds s x.held state) (sym c.self.view_is) kept.held in
    kept_after s core _ e c.histories_grow_by_entries.ensures.legal c.histories_grow_by_entries.ensures.state c.histories_grow_by_entries.ensures.turns kept
    taken.space
    (record { desk_low = taken.low; desk_high = taken.high; turn = due.2; reply = c.in_ok-reply.ensures.reply s state holds })
    (c.push_command.ensures.entries ∙ ap (λ es. es ++ e ∷ []) (c.make_room.ensures.entries ∙ ap (λ (x : CoreState). x.journal) c.self.view_is))
    (ap (λ (x : CoreState). slice_set x.turns (desk - 1) turn) c.self.view_is)
    (c.in_ok-reply.ensures.holds s state holds)

pub returns-in_err-make_room-clause-untried : goal.returns-in_err-make_room-clause-untried
returns-in_err-make_room-clause-untried g c tried = subst (λ (x : CoreState). x.held.policy.tried ≡ x.held.policy.now) (sym c.self.view_is) tried

pub returns-in_err-reply-clause-untried : goal.returns-in_err-reply-clause-untried
returns-in_err-reply-clause-untried g c tried = c.command.ensures.given_up

pub returns-clause-untried : goal.returns-clause-untried
returns-clause-untried g c tried = c.command.ensures.given_up

pub returns-clause-given_up : goal.returns-clause-given_up
returns-clause-given_up g c = c.command.ensures.given_up

pub returns-in_err-make_room-clause-most : goal.returns-in_err-make_room-clause-most
returns-in_err-make_room-clause-most g c = none_counted _ _ _

pub returns-in_err-make_room-clause-desks : goal.returns-in_err-make_room-clause-desks
returns-in_err-make_room-clause-desks g c = ap (λ (x : CoreState). length x.turns) c.self.view_is

pub returns-in_err-make_room-clause-err : goal.returns-in_err-make_room-clause-err
returns-in_err-make_room-clause-err g c = on_err _ _ (c.make_room.ensures.entries ∙ ap (λ (x : CoreState). x.journal) c.self.view_is)

pub returns-in_err-reply-clause-desks : goal.returns-in_err-reply-clause-desks
returns-in_err-reply-clause-desks g c = ap (λ (x : CoreState). length x.turns) c.self.view_is

pub returns-in_err-reply-clause-err : goal.returns-in_err-reply-clause-err
returns-in_err-reply-clause-err g c = on_err _ _ (c.make_room.ensures.entries ∙ ap (λ (x : CoreState). x.journal) c.self.view_is)

pub returns-clause-ok : goal.returns-clause-ok
returns-clause-ok g c =
    c.push_command.ensures.entries ∙ ap (λ es. es ++ commanded c.args.desk c.args.turn c.args.session c.args.command c.in_ok-reply.reply ∷ []) (c.make_room.ensures.entries ∙ ap (λ (x : CoreState). x.journal) c.self.view_is)
    ∙ ap (λ r. c.args.self.now.journal ++ commanded c.args.desk c.args.turn c.args.session c.args.command r ∷ []) (sym c.copy_of-answer.ensures)

pub push_command-requires : goal.push_command-requires
push_command-requires g c = c.in_ok-make_room.ensures.ready

pub overflow_sub-desk : goal.overflow_sub-desk
overflow_sub-desk g c = c.requires.taken.low

pub returns-clause-desks : goal.returns-clause-desks
returns-clause-desks g c =
    length-set c.self.inside.turns.items (c.args.desk - 1) c.args.turn ∙ ap (λ (x : CoreState). length x.turns) c.self.view_is
