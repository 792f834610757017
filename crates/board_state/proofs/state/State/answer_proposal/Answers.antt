use Rattle.std.proofs.Common.{◌≡◌, ◌+◌, ◌∙◌, ℕ, true, Some, None, Ok, Err, length, sym, ap, subst}
use Rattle.std.specs.List.{list_all}
use Rattle.std.specs.Option.{option_map}
use Rattle.dimension_core.specs.Setup.{setting}
use Rattle.permission_table.specs.Tables.{rows_at, rows_of}
use Rattle.plan_core.specs.Plan.{AreApart, AreSizes, changes_of, route_at}
use Rattle.move_core.specs.Moves.{changes_by, named_by, vehicles_of}
use Rattle.board_rules.specs.Rules.{basis_of, is_one_of}
use Rattle.board_rules.specs.RuleLaws.{effect_by_all}
use Rattle.board_state.specs.declared.change.NewRoutes.{NewRoutes}
use Rattle.board_state.specs.declared.stop.Stop.TheVariants.{Denied}
use Rattle.board_state.specs.Held.{HeldState, held_basis}
use Rattle.board_state.proofs.Stepping.{commit_will, stays}
use Rattle.board_state.proofs.WorkLaws.{after_named, denied_early, early_most, move_most}
use Rattle.board_state.proofs.state.State.answer_proposal.Goals as goal

pub returns-in_ok-former-in-Ok-clause-reply : goal.returns-in_ok-former-in-Ok-clause-reply
returns-in_ok-former-in-Ok-clause-reply g c state holds =
    let a = c.args in
    let s = setting a.setup.now in
    let held = a.self.now in
    let agree = c.agrees.ensures s state holds c.requires.sized a.session in
    ∣ (
      ap (λ n. n + 1) (c.version-version.ensures.value ∙ ap (λ (h : HeldState). h.plan.version) c.self.view_is ∙ holds.stamps.version),
      c.verdicts_by_agreeing_facts.ensures s (held_basis held a.session) (basis_of state a.session) a.base a.mv.now None agree c.in-Ok.ensures.passes,
    ) ∣₁

pub returns-in_ok-former-in-Ok-clause-change : goal.returns-in_ok-former-in-Ok-clause-change
returns-in_ok-former-in-Ok-clause-change g c state holds =
    let a = c.args in
    let s = setting a.setup.now in
    let held = a.self.now in
    let sizes = subst (λ (h : HeldState). AreSizes h.plan) c.self.view_is c.version-version.ensures.sizes in
    let effect = (effect_by_all s (held_basis held a.session) a.base a.mv.now c.in-Ok.ensures.passes).1 in
    commit_will s held state holds _ a.mv.now c.in-Ok.ensures.changes
    (c.moves_name_vehicles.ensures.named s.customers held.plan.routes a.mv.now (changes_by held.plan.routes a.mv.now) effect)
    c.in-Ok.ensures.ranges (subst (λ (n : ℕ). AreApart n (changes_of c.in-Ok.new.changes.items)) (sym sizes.stamps) c.in-Ok.ensures.ready.changes.apart)
    c.stamps_by_one_more.ensures

pub returns-in-Err-Denied-clause-reply : goal.returns-in-Err-Denied-clause-reply
returns-in-Err-Denied-clause-reply g c state holds =
    let a = c.args in
    let s = setting a.setup.now in
    let held = a.self.now in
    let agree = c.agrees.ensures s state holds c.requires.sized a.session in
    let stop = rw c.in-Err-Denied.field-0-is at c.in-Err-Denied.ensures.stop in
    ∣ c.verdicts_by_agreeing_facts.ensures s (held_basis held a.session) (basis_of state a.session) a.base a.mv.now (Some c.in-Err-Denied.denial) agree stop ∣₁

pub returns-in-Some-clause-reply : goal.returns-in-Some-clause-reply
returns-in-Some-clause-reply g c state holds =
    let a = c.args in
    let s = setting a.setup.now in
    let held = a.self.now in
    let agree = c.agrees.ensures s state holds c.requires.sized a.session in
    ∣ c.verdicts_by_agreeing_facts.ensures s (held_basis held a.session) (basis_of state a.session) a.base a.mv.now (Some c.in-Some.denial) agree c.in-Some.ensures.denial ∣₁

pub early_denial-requires-clause-ready : goal.early_denial-requires-clause-ready
early_denial-requires-clause-ready g c =
    c.requires

pub judge_move-requires-clause-ready : goal.judge_move-requires-clause-ready
judge_move-requires-clause-ready g c =
    c.requires

pub early_denial-requires-clause-place : goal.early_denial-requires-clause-place
early_denial-requires-clause-place g c =
    subst (λ (h : HeldState). rows_at h.tables c.place_of-place.result ≡ rows_of h.tables c.args.session) c.self.view_is c.place_of-place.ensures

pub judge_move-requires-clause-place : goal.judge_move-requires-clause-place
judge_move-requires-clause-place g c =
    subst (λ (h : HeldState). rows_at h.tables c.place_of-place.result ≡ rows_of h.tables c.args.session) c.self.view_is c.place_of-place.ensures

pub judge_move-requires-clause-passes : goal.judge_move-requires-clause-passes
judge_move-requires-clause-passes g c =
    c.in_default.ensures.denial

pub returns-in-Some-clause-change : goal.returns-in-Some-clause-change
returns-in-Some-clause-change g c state holds =
    stays (setting c.args.setup.now) c.args.self.now state holds

pub returns-in-Err-Denied-clause-change : goal.returns-in-Err-Denied-clause-change
returns-in-Err-Denied-clause-change g c state holds =
    stays (setting c.args.setup.now) c.args.self.now state holds

pub returns-in-Some-clause-work : goal.returns-in-Some-clause-work
returns-in-Some-clause-work g c =
    denied_early _ _ _ _ _ _ _ _ _ c.in-Some.denial c.in-Some.ensures.early c.in-Some.ensures.work

pub returns-in-Some-clause-most : goal.returns-in-Some-clause-most
returns-in-Some-clause-most g c =
    early_most _ _ _ _ _ _ _ c.early_denial.ensures.work

pub former_routes-requires : goal.former_routes-requires
former_routes-requires g c =
    subst (λ (h : HeldState). list_all (is_one_of (length h.plan.routes)) (named_by c.args.mv.now) ≡ true) (sym c.judge_move.ensures.same)
    (subst (λ (n : ℕ). list_all (is_one_of n) (named_by c.args.mv.now) ≡ true) (sym c.requires.sized) c.in_default.ensures.denial.0.0.0.0.1)

pub returns-in_err-former-in-Ok-clause-same : goal.returns-in_err-former-in-Ok-clause-same
returns-in_err-former-in-Ok-clause-same g c =
    c.judge_move.ensures.same

pub returns-in_err-former-in-Ok-clause-most : goal.returns-in_err-former-in-Ok-clause-most
returns-in_err-former-in-Ok-clause-most g c =
    move_most _ _ _ _ _ _ _ _ c.judge_move.result c.in_default.ensures.work c.judge_move.ensures.work

pub returns-in_ok-former-in-Ok-clause-same : goal.returns-in_ok-former-in-Ok-clause-same
returns-in_ok-former-in-Ok-clause-same g c =
    c.judge_move.ensures.same

pub returns-in_ok-former-in-Ok-clause-most : goal.returns-in_ok-former-in-Ok-clause-most
returns-in_ok-former-in-Ok-clause-most g c =
    move_most _ _ _ _ _ _ _ _ c.judge_move.result c.in_default.ensures.work c.judge_move.ensures.work

pub returns-in-Err-Denied-clause-same : goal.returns-in-Err-Denied-clause-same
returns-in-Err-Denied-clause-same g c =
    c.judge_move.ensures.same

pub returns-in-Err-Denied-clause-most : goal.returns-in-Err-Denied-clause-most
returns-in-Err-Denied-clause-most g c =
    move_most _ _ _ _ _ _ _ _ c.judge_move.result c.in_default.ensures.work c.judge_move.ensures.work

pub returns-in-Err-NoMemory-clause-same : goal.returns-in-Err-NoMemory-clause-same
returns-in-Err-NoMemory-clause-same g c =
    c.judge_move.ensures.same

pub returns-in-Err-NoMemory-clause-most : goal.returns-in-Err-NoMemory-clause-most
returns-in-Err-NoMemory-clause-most g c =
    move_most _ _ _ _ _ _ _ _ c.judge_move.result c.in_default.ensures.work c.judge_move.ensures.work

pub returns-in_ok-former-in-Ok-clause-work : goal.returns-in_ok-former-in-Ok-clause-work
returns-in_ok-former-in-Ok-clause-work g c =
    after_named _ _ _ _ _ _ _ _ (Ok c.in-Ok.new) c.in_default.ensures.work c.in-Ok.ensures.work

pub returns-in-Err-Denied-clause-work : goal.returns-in-Err-Denied-clause-work
returns-in-Err-Denied-clause-work g c =
    let work = rw c.in-Err-Denied.field-0-is at c.in-Err-Denied.ensures.work in
    after_named {C = NewRoutes} _ _ _ _ _ _ _ _ (Err (Denied c.in-Err-Denied.denial)) c.in_default.ensures.work work

pub returns-in_ok-former-in-Ok-clause-ready : goal.returns-in_ok-former-in-Ok-clause-ready
returns-in_ok-former-in-Ok-clause-ready g c =
    let mv = c.args.mv.now in
    record {
      routes = c.in-Ok.ensures.ready;
      made = c.in-Ok.ensures.made;
      former = c.in_ok-former-in-Ok.ensures.former ∙ ap (λ (h : HeldState). route_at h.plan.routes (vehicles_of mv).0) c.judge_move.ensures.same;
      other = c.in_ok-former-in-Ok.ensures.other ∙ ap (λ (h : HeldState). option_map (route_at h.plan.routes) (vehicles_of mv).1) c.judge_move.ensures.same;
    }
