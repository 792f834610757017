use Rattle.std.proofs.Common.{◌≡◌, ◌+◌, ◌∙◌, ℕ, sym, ap, subst}
use Rattle.dimension_core.specs.Setup.{setting}
use Rattle.plan_core.specs.Plan.{AreApart, AreSizes, changes_of, replaced, with_routes}
use Rattle.move_core.specs.Moves.{changes_by}
use Rattle.pin_core.specs.Override.{after_commit}
use Rattle.board_rules.specs.RuleLaws.{effect_by_all}
use Rattle.range_cache.specs.Cache.{IsCacheOf}
use Rattle.rbac_core.specs.Tried.{Tried}
use Rattle.board_state.specs.Changes.{ArePlaceableRoutes}
use Rattle.board_state.specs.Held.{HeldState, held_basis}
use Rattle.board_state.proofs.Stepping.{new_holds}
use Rattle.board_state.proofs.state.State.take_move.Goals as goal

pub returns-in-Ok-clause-holds : goal.returns-in-Ok-clause-holds
returns-in-Ok-clause-holds g c state holds =
    let a = c.args in
    let s = setting a.setup.now in
    let held = a.self.now in
    let sizes = subst (λ (h : HeldState). AreSizes h.plan) c.self.view_is c.version-version.ensures.sizes in
    let effect = (effect_by_all s (held_basis held a.proposal.now.session) a.proposal.now.base a.proposal.now.mv.now c.in-Ok.ensures.passes).1 in
    let put = c.replace.ensures in
    let is = c.judge_move.ensures.same in
    new_holds s held c.replace.new.self state c.in-Ok.new a.proposal.now.mv.now holds c.in-Ok.ensures.changes
    (c.moves_name_vehicles.ensures.named s.customers held.plan.routes a.proposal.now.mv.now (changes_by held.plan.routes a.proposal.now.mv.now) effect)
    c.in-Ok.ensures.ranges (subst (λ (n : ℕ). AreApart n (changes_of c.in-Ok.new.changes.items)) (sym sizes.stamps) c.in-Ok.ensures.ready.changes.apart)
    c.stamps_by_one_more.ensures
    (put.policy ∙ ap (λ (h : HeldState). h.policy) is) (put.tables ∙ ap (λ (h : HeldState). h.tables) is)
    (put.plan ∙ ap (λ (h : HeldState). replaced (changes_of c.in-Ok.new.changes.items) h.plan) is)
    (put.pins ∙ ap (λ (h : HeldState). after_commit (with_routes (changes_of c.in-Ok.new.changes.items) h.plan.routes) h.pins) is)
    (λ routes changes was rows. put.cache s routes changes (subst (λ (h : HeldState). IsCacheOf s routes h.cache) (sym is) was) rows)

pub judge_move-requires-clause-ready : goal.judge_move-requires-clause-ready
judge_move-requires-clause-ready g c = c.requires.ready

pub judge_move-requires-clause-place : goal.judge_move-requires-clause-place
judge_move-requires-clause-place g c = c.requires.place

pub judge_move-requires-clause-passes : goal.judge_move-requires-clause-passes
judge_move-requires-clause-passes g c = c.requires.passes

pub replace-requires : goal.replace-requires
replace-requires g c =
    subst (λ (h : HeldState). ArePlaceableRoutes h c.in-Ok.new) (sym c.judge_move.ensures.same) c.in-Ok.ensures.ready

pub returns-in-Ok-clause-version : goal.returns-in-Ok-clause-version
returns-in-Ok-clause-version g c =
    ap (λ (n : ℕ). n + 1) (c.version-version.ensures.value ∙ ap (λ (h : HeldState). h.plan.version) c.self.view_is)

pub returns-in-Ok-clause-passes : goal.returns-in-Ok-clause-passes
returns-in-Ok-clause-passes g c = c.in-Ok.ensures.passes

pub returns-in-Ok-clause-untried : goal.returns-in-Ok-clause-untried
returns-in-Ok-clause-untried g c untried =
    subst (λ (t : Tried). t.tried ≡ t.now) (sym (c.replace.ensures.policy ∙ ap (λ (h : HeldState). h.policy) c.judge_move.ensures.same)) untried

pub returns-in-Ok-clause-work : goal.returns-in-Ok-clause-work
returns-in-Ok-clause-work g c = c.in-Ok.ensures.work

pub returns-in-Err-clause-stop : goal.returns-in-Err-clause-stop
returns-in-Err-clause-stop g c = c.in-Err.ensures.stop

pub returns-in-Err-clause-err : goal.returns-in-Err-clause-err
returns-in-Err-clause-err g c = c.judge_move.ensures.same

pub returns-in-Err-clause-untried : goal.returns-in-Err-clause-untried
returns-in-Err-clause-untried g c untried =
    subst (λ (h : HeldState). h.policy.tried ≡ h.policy.now) (sym c.judge_move.ensures.same) untried

pub returns-in-Err-clause-work : goal.returns-in-Err-clause-work
returns-in-Err-clause-work g c = c.in-Err.ensures.work
