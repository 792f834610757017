use Rattle.std.proofs.Common.{◌≡◌, ◌∙◌, ℕ, true, List, Some, not, find, length, refl, sym, ap, subst, arith}
use Rattle.std.specs.Prelude.{OnOk, IfOk, IfErr}
use Rattle.dimension_core.specs.Setup.{setting}
use Rattle.permission_core.specs.declared.objects.Operation.TheVariants as operations
use Rattle.permission_core.specs.declared.objects.Object.TheVariants as objects
use Rattle.permission_table.specs.Tables.{allows, rows_at, rows_of}
use Rattle.plan_core.specs.declared.touch.Touch.{Touch}
use Rattle.plan_core.specs.Plan.{changes_of}
use Rattle.range_cache.specs.Pending.{AreNewRows}
use Rattle.move_core.specs.Moves.{changes_by, effect, is_possible}
use Rattle.move_core.specs.Touched.{touched_by}
use Rattle.board_rules.specs.Rules.{PassesEffect, PassesAll}
use Rattle.board_rules.specs.declared.reply.Denial.TheVariants.{AccessCustomer}
use Rattle.board_state.specs.declared.stop.Stop.TheVariants.{Denied}
use Rattle.board_state.specs.Changes.{AreMadeBy, ArePlaceableRoutes}
use Rattle.board_state.specs.Held.{HeldState, IsReady, held_basis}
use Rattle.board_state.specs.Verdicts.{IsStop, IsWorkOfMove}
use Rattle.board_state.proofs.NewPlans.{has_effect}
use Rattle.board_state.proofs.WorkLaws.{idle, within, where_none, after_touched}
use Rattle.board_state.proofs.state.State.judge_move.Goals as goal

pub returns-in-Some-clause-stop : goal.returns-in-Some-clause-stop
returns-in-Some-clause-stop g c =
    let s = setting c.args.setup.now in
    let mv = c.args.proposal.now.mv.now in
    let passes = subst (λ (h : HeldState). PassesEffect s (held_basis h c.args.proposal.now.session) c.args.proposal.now.base mv) (sym c.self.view_is) c.requires.passes in
    let touched = c.deref.ensures.value ∙ c.in-Ok.ensures in
    let first = ap (λ (ts : List Touch). find (λ t. not (allows c.self.inside.tables c.args.proposal.now.session operations.Move (objects.Customer t.customer))) ts) (sym touched) ∙ sym c.in-Some.ensures.first in
    subst (λ (h : HeldState). IsStop s (held_basis h c.args.proposal.now.session) c.args.proposal.now.base mv (Denied (AccessCustomer c.in-Some.touch.vehicle c.in-Some.touch.place))) c.self.view_is
    (passes, (c.in-Some.touch, first, refl, refl))

pub judge_routes-requires-clause-passes : goal.judge_routes-requires-clause-passes
judge_routes-requires-clause-passes g c =
    let s = setting c.args.setup.now in
    let mv = c.args.proposal.now.mv.now in
    let passes = subst (λ (h : HeldState). PassesEffect s (held_basis h c.args.proposal.now.session) c.args.proposal.now.base mv) (sym c.self.view_is) c.requires.passes in
    let touched = c.deref.ensures.value ∙ c.in-Ok.ensures in (
      passes,
      ap (λ (ts : List Touch). find (λ t. not (allows c.self.inside.tables c.args.proposal.now.session operations.Move (objects.Customer t.customer))) ts) (sym touched)
          ∙ sym c.first_barred_customer.ensures.first ∙ c.in_default-first_barred_customer.is,
    )

pub returns-clause-passes : goal.returns-clause-passes
returns-clause-passes g c =
    let a = c.args in
    subst (λ (h : HeldState). OnOk c.judge_routes.result (PassesAll (setting a.setup.now) (held_basis h a.proposal.now.session) a.proposal.now.base a.proposal.now.mv.now)) c.self.view_is c.judge_routes.ensures.passes

pub returns-clause-stop : goal.returns-clause-stop
returns-clause-stop g c =
    let a = c.args in
    subst (λ (h : HeldState). IfErr c.judge_routes.result (IsStop (setting a.setup.now) (held_basis h a.proposal.now.session) a.proposal.now.base a.proposal.now.mv.now)) c.self.view_is c.judge_routes.ensures.stop

pub returns-in-Some-clause-work : goal.returns-in-Some-clause-work
returns-in-Some-clause-work g c =
    let touched = ap length (c.deref.ensures.value ∙ c.in-Ok.ensures ∙ ap (λ (h : HeldState). touched_by h.plan.routes c.args.proposal.now.mv.now) c.self.view_is) in
    within _ _ _ _ _ _ _ _ _ _ c.in-Some.ensures.some (omega arith) (omega arith) (omega arith) (omega (arith, touched))

pub returns-clause-work : goal.returns-clause-work
returns-clause-work g c =
    let touched = ap length (c.deref.ensures.value ∙ c.in-Ok.ensures ∙ ap (λ (h : HeldState). touched_by h.plan.routes c.args.proposal.now.mv.now) c.self.view_is) in
    let probes = where_none _ _ c.first_barred_customer.ensures.whole c.in_default-first_barred_customer.is in
    let routes = subst (λ (h : HeldState). IsWorkOfMove (setting c.args.setup.now) h c.args.proposal.now.mv.now 0 0 c.judge_routes.result c.first_barred_customer.new.meter c.judge_routes.new.meter) c.self.view_is c.judge_routes.ensures.work in
    after_touched _ _ _ (length (touched_by c.args.self.now.plan.routes c.args.proposal.now.mv.now)) _ _ _ c.judge_routes.result c.judge_routes.ensures.late
    (within _ _ _ _ _ _ _ _ _ _ probes (omega arith) (omega arith) (omega (arith, touched)) (omega (arith, touched))) routes

pub touches_in-requires : goal.touches_in-requires
touches_in-requires g c =
    let mv = c.args.proposal.now.mv.now in
    let routes = c.args.self.now.plan.routes in
    let effect = subst (λ (n : ℕ). effect n routes mv ≡ Some (changes_by routes mv)) (sym c.requires.ready.customers) c.requires.passes.1 in
    subst (λ (h : HeldState). is_possible h.plan.customers h.plan.routes mv ≡ true) (sym c.self.view_is)
    (has_effect (is_possible c.args.self.now.plan.customers routes mv) (changes_by routes mv) effect)

pub returns-in_default-clause-same : goal.returns-in_default-clause-same
returns-in_default-clause-same g c = c.self.view_is

pub returns-in_default-clause-work : goal.returns-in_default-clause-work
returns-in_default-clause-work g c = idle _ _ _

pub first_barred_customer-requires : goal.first_barred_customer-requires
first_barred_customer-requires g c =
    let p = c.args.proposal.now in
    c.rows_at-found.ensures ∙ subst (λ (h : HeldState). rows_at h.tables p.place ≡ rows_of h.tables p.session) (sym c.self.view_is) c.requires.place

pub returns-in-Some-clause-same : goal.returns-in-Some-clause-same
returns-in-Some-clause-same g c = c.self.view_is

pub judge_routes-requires-clause-ready : goal.judge_routes-requires-clause-ready
judge_routes-requires-clause-ready g c =
    subst (λ (h : HeldState). IsReady (setting c.args.setup.now) h) (sym c.self.view_is) c.requires.ready

pub judge_routes-requires-clause-touched : goal.judge_routes-requires-clause-touched
judge_routes-requires-clause-touched g c = c.in-Ok.ensures

pub returns-clause-same : goal.returns-clause-same
returns-clause-same g c = c.judge_routes.ensures.same ∙ c.self.view_is

pub returns-clause-changes : goal.returns-clause-changes
returns-clause-changes g c =
    subst (λ (h : HeldState). IfOk c.judge_routes.result (λ new. changes_of new.changes.items ≡ changes_by h.plan.routes c.args.proposal.now.mv.now)) c.self.view_is c.judge_routes.ensures.changes

pub returns-clause-ready : goal.returns-clause-ready
returns-clause-ready g c =
    subst (λ (h : HeldState). IfOk c.judge_routes.result (ArePlaceableRoutes h)) c.self.view_is c.judge_routes.ensures.ready

pub returns-clause-made : goal.returns-clause-made
returns-clause-made g c =
    subst (λ (h : HeldState). IfOk c.judge_routes.result (AreMadeBy h c.args.proposal.now.mv.now)) c.self.view_is c.judge_routes.ensures.made

pub returns-clause-ranges : goal.returns-clause-ranges
returns-clause-ranges g c =
    subst (λ (h : HeldState). IfOk c.judge_routes.result (λ new. AreNewRows (setting c.args.setup.now) (changes_by h.plan.routes c.args.proposal.now.mv.now) new.pending.rows))
    c.self.view_is c.judge_routes.ensures.ranges
