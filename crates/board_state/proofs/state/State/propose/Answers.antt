use Rattle.std.proofs.Common.{◌≡◌, ◌+◌, ◌∙◌, ℕ, Some, None, Ok, Err, sym, ap, subst}
use Rattle.dimension_core.specs.Setup.{setting}
use Rattle.permission_table.specs.Tables.{rows_at, rows_of}
use Rattle.board_rules.specs.Rules.{basis_of}
use Rattle.board_state.specs.declared.stop.Stop.TheVariants.{Denied}
use Rattle.board_state.specs.Held.{HeldState, Holds, held_basis}
use Rattle.board_state.proofs.WorkLaws.{after_named, denied_early, early_most, move_most}
use Rattle.board_state.proofs.state.State.propose.Goals as goal

pub returns-in-Ok-clause-reply : goal.returns-in-Ok-clause-reply
returns-in-Ok-clause-reply g c state holds =
    let a = c.args in
    let s = setting a.setup.now in
    let held = a.self.now in
    let agree = c.agrees.ensures s state holds c.requires.sized a.session in
    ∣ (
      c.in-Ok.ensures.version ∙ ap (λ n. n + 1) holds.stamps.version,
      c.verdicts_by_agreeing_facts.ensures s (held_basis held a.session) (basis_of state a.session) a.base a.mv.now None agree c.in-Ok.ensures.passes,
    ) ∣₁

pub returns-in-Err-Denied-clause-reply : goal.returns-in-Err-Denied-clause-reply
returns-in-Err-Denied-clause-reply g c state holds =
    let a = c.args in
    let s = setting a.setup.now in
    let held = a.self.now in
    let agree = c.agrees.ensures s state holds c.requires.sized a.session in
    let stop = rw c.in-Err-Denied.field-0-is at c.in-Err-Denied.ensures.stop in
    ∣ c.verdicts_by_agreeing_facts.ensures s (held_basis held a.session) (basis_of state a.session) a.base a.mv.now (Some c.in-Err-Denied.denial) agree stop ∣₁

pub returns-in-Some-clause-reply : goal.returns-in-Some-clause-reply
returns-in-Some-clause-reply g c state holds =
    let a = c.args in
    let s = setting a.setup.now in
    let held = a.self.now in
    let agree = c.agrees.ensures s state holds c.requires.sized a.session in
    ∣ c.verdicts_by_agreeing_facts.ensures s (held_basis held a.session) (basis_of state a.session) a.base a.mv.now (Some c.in-Some.denial) agree c.in-Some.ensures.denial ∣₁

pub returns-in-Some-clause-work : goal.returns-in-Some-clause-work
returns-in-Some-clause-work g c =
    denied_early _ _ _ _ _ _ _ _ _ c.in-Some.denial c.in-Some.ensures.early c.in-Some.ensures.work

pub returns-in-Some-clause-most : goal.returns-in-Some-clause-most
returns-in-Some-clause-most g c = early_most _ _ _ _ _ _ _ c.early_denial.ensures.work

pub early_denial-requires-clause-ready : goal.early_denial-requires-clause-ready
early_denial-requires-clause-ready g c = c.requires

pub take_move-requires-clause-ready : goal.take_move-requires-clause-ready
take_move-requires-clause-ready g c = c.requires

pub early_denial-requires-clause-place : goal.early_denial-requires-clause-place
early_denial-requires-clause-place g c =
    subst (λ (h : HeldState). rows_at h.tables c.place_of-place.result ≡ rows_of h.tables c.args.session) c.self.view_is c.place_of-place.ensures

pub take_move-requires-clause-place : goal.take_move-requires-clause-place
take_move-requires-clause-place g c =
    subst (λ (h : HeldState). rows_at h.tables c.place_of-place.result ≡ rows_of h.tables c.args.session) c.self.view_is c.place_of-place.ensures

pub take_move-requires-clause-passes : goal.take_move-requires-clause-passes
take_move-requires-clause-passes g c = c.in_default.ensures.denial

pub returns-in-Some-clause-holds : goal.returns-in-Some-clause-holds
returns-in-Some-clause-holds g c state holds = holds

pub returns-in-Ok-clause-holds : goal.returns-in-Ok-clause-holds
returns-in-Ok-clause-holds g c = c.in-Ok.ensures.holds

pub returns-in-Ok-clause-work : goal.returns-in-Ok-clause-work
returns-in-Ok-clause-work g c =
    after_named _ _ _ _ _ _ _ _ (Ok c.in-Ok.version) c.in_default.ensures.work c.in-Ok.ensures.work

pub returns-in-Err-Denied-clause-holds : goal.returns-in-Err-Denied-clause-holds
returns-in-Err-Denied-clause-holds g c state holds =
    subst (λ (h : HeldState). Holds (setting c.args.setup.now) h state) (sym c.in-Err-Denied.ensures.err) holds

pub returns-in-Err-Denied-clause-work : goal.returns-in-Err-Denied-clause-work
returns-in-Err-Denied-clause-work g c =
    let work = rw c.in-Err-Denied.field-0-is at c.in-Err-Denied.ensures.work in
    after_named {C = ℕ} _ _ _ _ _ _ _ _ (Err (Denied c.in-Err-Denied.denial)) c.in_default.ensures.work work

pub returns-in-Ok-clause-untried : goal.returns-in-Ok-clause-untried
returns-in-Ok-clause-untried g c = c.take_move.ensures.untried

pub returns-in-Ok-clause-most : goal.returns-in-Ok-clause-most
returns-in-Ok-clause-most g c =
    move_most _ _ _ _ _ _ _ _ c.take_move.result c.in_default.ensures.work c.take_move.ensures.work

pub returns-in-Err-Denied-clause-untried : goal.returns-in-Err-Denied-clause-untried
returns-in-Err-Denied-clause-untried g c = c.take_move.ensures.untried

pub returns-in-Err-Denied-clause-most : goal.returns-in-Err-Denied-clause-most
returns-in-Err-Denied-clause-most g c =
    move_most _ _ _ _ _ _ _ _ c.take_move.result c.in_default.ensures.work c.take_move.ensures.work

pub returns-in-Err-NoMemory-clause-untried : goal.returns-in-Err-NoMemory-clause-untried
returns-in-Err-NoMemory-clause-untried g c = c.take_move.ensures.untried

pub returns-in-Err-NoMemory-clause-most : goal.returns-in-Err-NoMemory-clause-most
returns-in-Err-NoMemory-clause-most g c =
    move_most _ _ _ _ _ _ _ _ c.take_move.result c.in_default.ensures.work c.take_move.ensures.work

pub returns-in-Err-NoMemory-clause-err : goal.returns-in-Err-NoMemory-clause-err
returns-in-Err-NoMemory-clause-err g c = c.in-Err-NoMemory.ensures.err
