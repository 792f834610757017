use Rattle.std.proofs.Common.{◌≡◌, ◌≤◌, ℕ, ◌⊎◌, List, Some, Ok, Err, length, sym, ap, ◌∙◌, subst, All}
use Rattle.callback_store.specs.Meter.{Asks, AsksJust, AsksAtMost}
use Rattle.dimension_core.specs.Setup.{setting}
use Rattle.dimension_core.specs.NewRoutes.{AllFit, AllKnown, IsOut}
use Rattle.plan_core.specs.declared.touch.Touch.{Touch}
use Rattle.plan_core.specs.Drafts.{DraftState, AreFrontsWithin, drafted, drafts_of}
use Rattle.plan_core.specs.Plan.{Changes, changes_of, with_routes, IsPlan, AreChanges}
use Rattle.pin_core.specs.Pins.{AreFreezesKept, IsHeld}
use Rattle.pin_core.specs.Allowed.{IsTouched}
use Rattle.range_cache.specs.Asks.{judge_asks, asks_before}
use Rattle.range_cache.specs.Pending.{AreNewRows}
use Rattle.move_core.specs.Moves.{changes_by, effect}
use Rattle.move_core.specs.Touched.{touched_by}
use Rattle.board_rules.specs.Override.{DoPinsAllow}
use Rattle.board_rules.specs.Rules.{PassesCustomers, PassesAll, may_override, routes_after}
use Rattle.board_state.specs.Deltas.{AreFreed}
use Rattle.board_state.specs.declared.change.NewRoutes.{NewRoutes}
use Rattle.board_state.specs.Held.{HeldState, IsReady, held_basis}
use Rattle.board_rules.specs.declared.reply.Denial.TheVariants.{Bound}
use Rattle.board_state.specs.declared.stop.Stop.TheVariants.{Denied, NoMemory}
use Rattle.board_state.specs.Verdicts.{IsStop, IsPinStop, ArePlaceable, probes_least}
use Rattle.board_state.specs.Work.{Works, leaving}
use Rattle.board_state.proofs.NewPlans.{all_under}
use Rattle.board_state.proofs.Proposals.{both_are, pin_stop, passes_all, out_of_bounds}
use Rattle.board_state.proofs.WorkLaws.{idle, late_if_pinned, pinned_whole, pinned_stop, pins_work, pins_and_bounds, pins_and_some, work_as}
use Rattle.board_state.proofs.state.State.judge_routes.Goals as goal

pub drafted-requires-clause-holding : goal.drafted-requires-clause-holding
drafted-requires-clause-holding g c =
    let ready = subst (λ (h : HeldState). IsReady (setting c.args.setup.now) h) (sym c.self.view_is) c.requires.ready in
    ready.holding

pub returns-in-Err-clause-stop : goal.returns-in-Err-clause-stop
returns-in-Err-clause-stop g c =
    let a = c.args in
    let held : HeldState = record { policy = c.self.inside.policy; tables = c.self.inside.tables; plan = c.self.inside.plan; pins = c.self.inside.pins; cache = c.self.inside.cache } in
    let ready = subst (λ (h : HeldState). IsReady (setting a.setup.now) h) (sym c.self.view_is) c.requires.ready in
    let passes = subst (λ (h : HeldState). PassesCustomers (setting a.setup.now) (held_basis h a.proposal.now.session) a.proposal.now.base a.proposal.now.mv.now) (sym c.self.view_is) c.requires.passes in
    let listed = c.requires.touched ∙ ap (λ (h : HeldState). touched_by h.plan.routes a.proposal.now.mv.now) (sym c.self.view_is) in
    let changes = ap (λ (ds : List DraftState). drafts_of held.plan.routes ds) c.as_slice.ensures ∙ c.in-Ok.ensures.changes in
    rw (sym c.self.view_is) (pin_stop (setting a.setup.now) held a.proposal.now.session a.proposal.now.base a.proposal.now.mv.now ready passes c.in-Ok.ensures.named a.touched.items c.in-Err.stop listed
    (subst (λ (cs : Changes). IsPinStop held.pins (may_override (held_basis held a.proposal.now.session)) held.plan.routes cs a.touched.items c.in-Err.stop) changes
    (subst (λ (ts : List Touch). IsPinStop held.pins (may_override (held_basis held a.proposal.now.session)) held.plan.routes (drafts_of held.plan.routes c.as_slice.result.now) ts c.in-Err.stop) c.deref-2.ensures.value c.in-Err.ensures.stop)))

pub returns-in-Ok-written-clause-passes : goal.returns-in-Ok-written-clause-passes
returns-in-Ok-written-clause-passes g c =
    let a = c.args in
    let held : HeldState = record { policy = c.self.inside.policy; tables = c.self.inside.tables; plan = c.self.inside.plan; pins = c.self.inside.pins; cache = c.self.inside.cache } in
    let ready = subst (λ (h : HeldState). IsReady (setting a.setup.now) h) (sym c.self.view_is) c.requires.ready in
    let passes = subst (λ (h : HeldState). PassesCustomers (setting a.setup.now) (held_basis h a.proposal.now.session) a.proposal.now.base a.proposal.now.mv.now) (sym c.self.view_is) c.requires.passes in
    let changes = ap (λ (ds : List DraftState). drafts_of held.plan.routes ds) c.as_slice.ensures ∙ c.in-Ok.ensures.changes in
    let judged = ap (λ (ds : List DraftState). drafts_of held.plan.routes ds) c.as_slice-2.ensures ∙ c.in-Ok.ensures.changes in
    subst (λ (h : HeldState). PassesAll (setting a.setup.now) (held_basis h a.proposal.now.session) a.proposal.now.base a.proposal.now.mv.now) c.self.view_is (passes_all (setting a.setup.now) held a.proposal.now.session a.proposal.now.base a.proposal.now.mv.now ready passes c.in-Ok.ensures.named c.deref.result.now c.in-Ok.ensures.placeable
    (subst (λ (cs : Changes). AreFreezesKept held.pins held.plan.routes (with_routes cs held.plan.routes)) changes c.in-Ok-judge_pins.ensures.fronts)
    (subst (λ (cs : Changes). DoPinsAllow held.pins (may_override (held_basis held a.proposal.now.session)) (with_routes cs held.plan.routes)) changes c.in-Ok-judge_pins.ensures.pins)
    (subst (λ (cs : Changes). AllFit (setting a.setup.now) cs) judged c.in-Ok-judge_in.ensures.fits))

pub returns-in-Ok-written-clause-ranges : goal.returns-in-Ok-written-clause-ranges
returns-in-Ok-written-clause-ranges g c =
    let judged = ap (λ (ds : List DraftState). drafts_of c.self.inside.plan.routes ds) c.as_slice-2.ensures ∙ c.in-Ok.ensures.changes ∙ ap (λ (h : HeldState). changes_by h.plan.routes c.args.proposal.now.mv.now) c.self.view_is in
    subst (λ (cs : Changes). AreNewRows (setting c.args.setup.now) cs c.in-Ok-judge_in.pending.rows) judged c.in-Ok-judge_in.ensures.rows

pub returns-in-Ok-written-clause-ready : goal.returns-in-Ok-written-clause-ready
returns-in-Ok-written-clause-ready g c =
    let a = c.args in
    let held = a.self.now in
    let by = c.in-Ok.ensures.changes ∙ ap (λ (h : HeldState). changes_by h.plan.routes a.proposal.now.mv.now) c.self.view_is in
    let new = c.in-Ok-written.changes.items in
    let same : changes_by held.plan.routes a.proposal.now.mv.now ≡ changes_of new = sym (c.in-Ok-written.ensures.changes ∙ c.in-Ok.ensures.changes ∙ ap (λ (h : HeldState). changes_by h.plan.routes a.proposal.now.mv.now) c.self.view_is) in
    let drafts : drafts_of c.self.inside.plan.routes c.as_slice.result.now ≡ changes_of new = ap (λ (ds : List DraftState). drafts_of c.self.inside.plan.routes ds) c.as_slice.ensures ∙ by ∙ same in
    let placeable = subst (λ (ts : List Touch). ArePlaceable held (changes_by held.plan.routes a.proposal.now.mv.now) ts) c.deref.ensures.value
    (subst (λ (h : HeldState). ArePlaceable h (changes_by h.plan.routes a.proposal.now.mv.now) c.deref.result.now) c.self.view_is c.in-Ok.ensures.placeable) in
    let short = subst (λ (h : HeldState). All (λ d. length d.1 ≤ 1000) (changes_by h.plan.routes a.proposal.now.mv.now)) c.self.view_is c.in-Ok.ensures.short in
    let freed = subst (λ (cs : Changes). AreFreed c.self.inside.pins (with_routes cs c.self.inside.plan.routes) c.deref-2.result.now c.in-Ok-judge_pins.freed.items) drafts c.in-Ok-judge_pins.ensures.freed in
    record {
      lengths = all_under (λ d. (d.0, d.1.value)) (λ d. length d.1 ≤ 1000) new (changes_by held.plan.routes a.proposal.now.mv.now) (sym same) short;
      freed = subst (λ (ts : List Touch). AreFreed held.pins (with_routes (changes_of new) held.plan.routes) ts c.in-Ok-judge_pins.freed.items) c.deref-2.ensures.value
          (subst (λ (h : HeldState). AreFreed h.pins (with_routes (changes_of new) h.plan.routes) c.deref-2.result.now c.in-Ok-judge_pins.freed.items) c.self.view_is freed);
      changes = subst (λ (cs : Changes). AreChanges (length held.plan.routes) cs) same placeable.changes;
      plan = subst (λ (cs : Changes). IsPlan held.plan.customers (with_routes cs held.plan.routes)) same placeable.plan;
      room = c.requires.ready.room;
      known = subst (λ (n : ℕ). All (λ t. (1 ≤ t.customer) × (t.customer ≤ n)) a.touched.items) (sym placeable.pinned) placeable.known;
      touched = subst (λ (cs : Changes). (d : ℕ) → 1 ≤ d → IsHeld held.pins (with_routes cs held.plan.routes) d ⊎ IsTouched a.touched.items d) same
          (c.pins_after_commits.ensures.touched held.pins held.plan.routes (with_routes (changes_by held.plan.routes a.proposal.now.mv.now) held.plan.routes) a.touched.items placeable.holding placeable.touched);
      pending = c.in-Ok-judge_in.ensures.of ∙ ap (λ (h : HeldState). h.cache) c.self.view_is;
    }

pub returns-in-Err-Bound-clause-stop : goal.returns-in-Err-Bound-clause-stop
returns-in-Err-Bound-clause-stop g c =
    let a = c.args in
    let held : HeldState = record { policy = c.self.inside.policy; tables = c.self.inside.tables; plan = c.self.inside.plan; pins = c.self.inside.pins; cache = c.self.inside.cache } in
    let ready = subst (λ (h : HeldState). IsReady (setting a.setup.now) h) (sym c.self.view_is) c.requires.ready in
    let passes = subst (λ (h : HeldState). PassesCustomers (setting a.setup.now) (held_basis h a.proposal.now.session) a.proposal.now.base a.proposal.now.mv.now) (sym c.self.view_is) c.requires.passes in
    let v = c.in-Err-Bound.vehicle in
    let d = c.in-Err-Bound.dimension in
    let changes = ap (λ (ds : List DraftState). drafts_of held.plan.routes ds) c.as_slice.ensures ∙ c.in-Ok.ensures.changes in
    let judged = ap (λ (ds : List DraftState). drafts_of held.plan.routes ds) c.as_slice-2.ensures ∙ c.in-Ok.ensures.changes in
    let out = rw c.in-Err-Bound.field-0-is at c.in-Err-Bound.ensures.fault in
    let stop = subst (λ (h : HeldState). IsStop (setting a.setup.now) (held_basis h a.proposal.now.session) a.proposal.now.base a.proposal.now.mv.now (Denied (Bound v d))) c.self.view_is (out_of_bounds (setting a.setup.now) held a.proposal.now.session a.proposal.now.base a.proposal.now.mv.now ready passes c.in-Ok.ensures.named c.deref.result.now c.in-Ok.ensures.placeable
    (subst (λ (cs : Changes). AreFreezesKept held.pins held.plan.routes (with_routes cs held.plan.routes)) changes c.in-Ok-judge_pins.ensures.fronts)
    (subst (λ (cs : Changes). DoPinsAllow held.pins (may_override (held_basis held a.proposal.now.session)) (with_routes cs held.plan.routes)) changes c.in-Ok-judge_pins.ensures.pins)
    v d (subst (λ (cs : Changes). IsOut (setting a.setup.now) cs v d) judged out)) in
    both_are (λ x y. IsStop (setting a.setup.now) (held_basis a.self.now a.proposal.now.session) a.proposal.now.base a.proposal.now.mv.now (Denied (Bound x y))) _ _ _ _ c.in-Err-Bound.vehicle-is c.in-Err-Bound.dimension-is stop

pub returns-in-Ok-written-clause-work : goal.returns-in-Ok-written-clause-work
returns-in-Ok-written-clause-work g c =
    let a = c.args in
    let held : HeldState = record { policy = c.self.inside.policy; tables = c.self.inside.tables; plan = c.self.inside.plan; pins = c.self.inside.pins; cache = c.self.inside.cache } in
    let listed = c.requires.touched ∙ ap (λ (h : HeldState). touched_by h.plan.routes a.proposal.now.mv.now) (sym c.self.view_is) in
    let s = setting a.setup.now in
    let changes = ap (λ (ds : List DraftState). drafts_of held.plan.routes ds) c.as_slice.ensures ∙ c.in-Ok.ensures.changes in
    let judged = ap (λ (ds : List DraftState). drafts_of held.plan.routes ds) c.as_slice-2.ensures ∙ c.in-Ok.ensures.changes in
    let pins = pins_work held a.proposal.now.mv.now c.as_slice.result.now c.deref-2.result.now a.touched.items c.judge_pins.result a.meter.now c.judge_pins.new.meter
    changes c.deref-2.ensures.value listed c.judge_pins.ensures.work in
    let bounds = subst (λ (cs : Changes). AsksJust c.judge_pins.new.meter c.judge_in.new.meter (judge_asks (length s.dimensions) held.plan.routes cs)) judged c.in-Ok-judge_in.ensures.whole in
    work_as s _ _ a.proposal.now.mv.now (Ok c.in-Ok-written.changes) _ _ c.self.view_is (pins_and_bounds _ _ _ _ _ _ (pinned_whole _ _ _ _ c.in-Ok-judge_pins.is pins) bounds)

pub returns-in_default-written-clause-work : goal.returns-in_default-written-clause-work
returns-in_default-written-clause-work g c =
    let a = c.args in
    let held : HeldState = record { policy = c.self.inside.policy; tables = c.self.inside.tables; plan = c.self.inside.plan; pins = c.self.inside.pins; cache = c.self.inside.cache } in
    let listed = c.requires.touched ∙ ap (λ (h : HeldState). touched_by h.plan.routes a.proposal.now.mv.now) (sym c.self.view_is) in
    let s = setting a.setup.now in
    let changes = ap (λ (ds : List DraftState). drafts_of held.plan.routes ds) c.as_slice.ensures ∙ c.in-Ok.ensures.changes in
    let judged = ap (λ (ds : List DraftState). drafts_of held.plan.routes ds) c.as_slice-2.ensures ∙ c.in-Ok.ensures.changes in
    let pins = pins_work held a.proposal.now.mv.now c.as_slice.result.now c.deref-2.result.now a.touched.items c.judge_pins.result a.meter.now c.judge_pins.new.meter
    changes c.deref-2.ensures.value listed c.judge_pins.ensures.work in
    let bounds = subst (λ (cs : Changes). AsksAtMost c.judge_pins.new.meter c.judge_in.new.meter (judge_asks (length s.dimensions) held.plan.routes cs)) judged c.judge_in.ensures.asks in
    work_as {C = NewRoutes} s _ _ a.proposal.now.mv.now (Err NoMemory) _ _ c.self.view_is (pins_and_some _ _ _ _ _ (pinned_whole _ _ _ _ c.in-Ok-judge_pins.is pins) bounds)

pub returns-in-Err-Bound-clause-work : goal.returns-in-Err-Bound-clause-work
returns-in-Err-Bound-clause-work g c =
    let a = c.args in
    let held : HeldState = record { policy = c.self.inside.policy; tables = c.self.inside.tables; plan = c.self.inside.plan; pins = c.self.inside.pins; cache = c.self.inside.cache } in
    let listed = c.requires.touched ∙ ap (λ (h : HeldState). touched_by h.plan.routes a.proposal.now.mv.now) (sym c.self.view_is) in
    let s = setting a.setup.now in
    let changes = ap (λ (ds : List DraftState). drafts_of held.plan.routes ds) c.as_slice.ensures ∙ c.in-Ok.ensures.changes in
    let judged = ap (λ (ds : List DraftState). drafts_of held.plan.routes ds) c.as_slice-2.ensures ∙ c.in-Ok.ensures.changes in
    let pins = pins_work held a.proposal.now.mv.now c.as_slice.result.now c.deref-2.result.now a.touched.items c.judge_pins.result a.meter.now c.judge_pins.new.meter
    changes c.deref-2.ensures.value listed c.judge_pins.ensures.work in
    let v = c.in-Err-Bound.vehicle in
    let d = c.in-Err-Bound.dimension in
    let least = rw c.in-Err-Bound.field-0-is at c.in-Err-Bound.ensures.least in
    let named = subst (λ (cs : Changes). Asks c.judge_pins.new.meter c.judge_in.new.meter (asks_before (length s.dimensions) held.plan.routes cs v d) (judge_asks (length s.dimensions) held.plan.routes cs)) judged least in
    let all = changes_by held.plan.routes a.proposal.now.mv.now in
    let bounds = both_are (λ x y. Asks c.judge_pins.new.meter c.judge_in.new.meter (asks_before (length s.dimensions) held.plan.routes all x y) (judge_asks (length s.dimensions) held.plan.routes all)) _ _ _ _ c.in-Err-Bound.vehicle-is c.in-Err-Bound.dimension-is named in
    work_as {C = NewRoutes} s _ _ a.proposal.now.mv.now (Err (Denied (Bound _ _))) _ _ c.self.view_is (pins_and_bounds _ _ _ _ _ _ (pinned_whole _ _ _ _ c.in-Ok-judge_pins.is pins) bounds)

pub judge_in-requires-clause-known : goal.judge_in-requires-clause-known
judge_in-requires-clause-known g c =
    let s = setting c.args.setup.now in
    let held : HeldState = record { policy = c.self.inside.policy; tables = c.self.inside.tables; plan = c.self.inside.plan; pins = c.self.inside.pins; cache = c.self.inside.cache } in
    let ready = subst (λ (h : HeldState). IsReady s h) (sym c.self.view_is) c.requires.ready in
    let judged = ap (λ (ds : List DraftState). drafts_of held.plan.routes ds) c.as_slice-2.ensures ∙ c.in-Ok.ensures.changes in
    subst (λ (cs : Changes). AllKnown s cs) (sym judged) (c.in-Ok.ensures.known s ready.sized ready.customers)

pub judge_in-requires-clause-short : goal.judge_in-requires-clause-short
judge_in-requires-clause-short g c =
    let routes = c.self.inside.plan.routes in
    let judged = ap (λ (ds : List DraftState). drafts_of routes ds) c.as_slice-2.ensures ∙ c.in-Ok.ensures.changes in
    all_under (λ d. (d.vehicle, drafted routes d)) (λ d. length d.1 ≤ 1000) c.as_slice-2.result.now (changes_by routes c.args.proposal.now.mv.now) judged c.in-Ok.ensures.short

pub returns-in-Err-clause-work : goal.returns-in-Err-clause-work
returns-in-Err-clause-work g c =
    let a = c.args in
    let s = setting a.setup.now in
    let held : HeldState = record { policy = c.self.inside.policy; tables = c.self.inside.tables; plan = c.self.inside.plan; pins = c.self.inside.pins; cache = c.self.inside.cache } in
    let listed = c.requires.touched ∙ ap (λ (h : HeldState). touched_by h.plan.routes a.proposal.now.mv.now) (sym c.self.view_is) in
    let changes = ap (λ (ds : List DraftState). drafts_of held.plan.routes ds) c.as_slice.ensures ∙ c.in-Ok.ensures.changes in
    let pins = pins_work held a.proposal.now.mv.now c.as_slice.result.now c.deref-2.result.now a.touched.items c.judge_pins.result a.meter.now c.judge_pins.new.meter
    changes c.deref-2.ensures.value listed c.judge_pins.ensures.work in
    let stopped = subst (λ (n : ℕ). Works a.meter.now c.judge_pins.new.meter 0 0 n (leaving held.pins (routes_after held.plan.routes a.proposal.now.mv.now) (touched_by held.plan.routes a.proposal.now.mv.now)))
    (ap (λ r. probes_least 0 0 (leaving held.pins (routes_after held.plan.routes a.proposal.now.mv.now) (touched_by held.plan.routes a.proposal.now.mv.now)) r) c.in-Err.is) pins in
    work_as {C = NewRoutes} s _ _ a.proposal.now.mv.now (Err c.in-Err.stop) _ _ c.self.view_is (pinned_stop _ _ _ _ _ _ _ c.in-Err.stop c.in-Err.ensures.pinned stopped)

pub returns-in-Err-NoMemory-clause-work : goal.returns-in-Err-NoMemory-clause-work
returns-in-Err-NoMemory-clause-work g c =
    let a = c.args in
    let held : HeldState = record { policy = c.self.inside.policy; tables = c.self.inside.tables; plan = c.self.inside.plan; pins = c.self.inside.pins; cache = c.self.inside.cache } in
    let listed = c.requires.touched ∙ ap (λ (h : HeldState). touched_by h.plan.routes a.proposal.now.mv.now) (sym c.self.view_is) in
    let s = setting a.setup.now in
    let changes = ap (λ (ds : List DraftState). drafts_of held.plan.routes ds) c.as_slice.ensures ∙ c.in-Ok.ensures.changes in
    let judged = ap (λ (ds : List DraftState). drafts_of held.plan.routes ds) c.as_slice-2.ensures ∙ c.in-Ok.ensures.changes in
    let pins = pins_work held a.proposal.now.mv.now c.as_slice.result.now c.deref-2.result.now a.touched.items c.judge_pins.result a.meter.now c.judge_pins.new.meter
    changes c.deref-2.ensures.value listed c.judge_pins.ensures.work in
    let bounds = subst (λ (cs : Changes). AsksAtMost c.judge_pins.new.meter c.judge_in.new.meter (judge_asks (length s.dimensions) held.plan.routes cs)) judged c.judge_in.ensures.asks in
    work_as {C = NewRoutes} s _ _ a.proposal.now.mv.now (Err NoMemory) _ _ c.self.view_is (pins_and_some _ _ _ _ _ (pinned_whole _ _ _ _ c.in-Ok-judge_pins.is pins) bounds)

pub returns-in-Err-clause-late : goal.returns-in-Err-clause-late
returns-in-Err-clause-late g c = late_if_pinned c.in-Err.stop c.in-Err.ensures.pinned

pub drafted-requires-clause-pinned : goal.drafted-requires-clause-pinned
drafted-requires-clause-pinned g c =
    let ready = subst (λ (h : HeldState). IsReady (setting c.args.setup.now) h) (sym c.self.view_is) c.requires.ready in
    ready.pinned ∙ sym ready.customers

pub drafted-requires-clause-frozen : goal.drafted-requires-clause-frozen
drafted-requires-clause-frozen g c =
    let ready = subst (λ (h : HeldState). IsReady (setting c.args.setup.now) h) (sym c.self.view_is) c.requires.ready in
    ready.frozen ∙ sym ready.sized

pub drafted-requires-clause-fitting : goal.drafted-requires-clause-fitting
drafted-requires-clause-fitting g c =
    let ready = subst (λ (h : HeldState). IsReady (setting c.args.setup.now) h) (sym c.self.view_is) c.requires.ready in
    ready.fitting

pub drafted-requires-clause-touched : goal.drafted-requires-clause-touched
drafted-requires-clause-touched g c =
    c.deref.ensures.value ∙ c.requires.touched ∙ ap (λ (h : HeldState). touched_by h.plan.routes c.args.proposal.now.mv.now) (sym c.self.view_is)

pub drafted-requires-clause-effect : goal.drafted-requires-clause-effect
drafted-requires-clause-effect g c =
    let mv = c.args.proposal.now.mv.now in
    subst (λ (h : HeldState). effect h.plan.customers h.plan.routes mv ≡ Some (changes_by h.plan.routes mv)) (sym c.self.view_is)
    (subst (λ (n : ℕ). effect n c.args.self.now.plan.routes mv ≡ Some (changes_by c.args.self.now.plan.routes mv)) (sym c.requires.ready.customers) c.requires.passes.0.1)

pub judge_pins-requires-clause-placeable : goal.judge_pins-requires-clause-placeable
judge_pins-requires-clause-placeable g c =
    let held : HeldState = record { policy = c.self.inside.policy; tables = c.self.inside.tables; plan = c.self.inside.plan; pins = c.self.inside.pins; cache = c.self.inside.cache } in
    let changes = ap (λ (ds : List DraftState). drafts_of held.plan.routes ds) c.as_slice.ensures ∙ c.in-Ok.ensures.changes in
    subst (λ (cs : Changes). ArePlaceable held cs c.deref-2.result.now) (sym changes)
    (subst (λ (ts : List Touch). ArePlaceable held (changes_by held.plan.routes c.args.proposal.now.mv.now) ts) (c.deref.ensures.value ∙ sym c.deref-2.ensures.value) c.in-Ok.ensures.placeable)

pub judge_pins-requires-clause-within : goal.judge_pins-requires-clause-within
judge_pins-requires-clause-within g c =
    subst (λ (ds : List DraftState). AreFrontsWithin c.self.inside.plan.routes ds) (sym c.as_slice.ensures) c.in-Ok.ensures.within

pub judge_in-requires-clause-cache : goal.judge_in-requires-clause-cache
judge_in-requires-clause-cache g c =
    let ready = subst (λ (h : HeldState). IsReady (setting c.args.setup.now) h) (sym c.self.view_is) c.requires.ready in
    ready.cache

pub judge_in-requires-clause-fronts : goal.judge_in-requires-clause-fronts
judge_in-requires-clause-fronts g c =
    subst (λ (ds : List DraftState). AreFrontsWithin c.self.inside.plan.routes ds) (sym c.as_slice-2.ensures) c.in-Ok.ensures.within

pub written-requires-clause-changes : goal.written-requires-clause-changes
written-requires-clause-changes g c =
    subst (λ (cs : Changes). AreChanges (length c.self.inside.plan.routes) cs) (sym c.in-Ok.ensures.changes) c.in-Ok.ensures.placeable.changes

pub written-requires-clause-within : goal.written-requires-clause-within
written-requires-clause-within g c =
    c.in-Ok.ensures.within

pub returns-in_default-clause-same : goal.returns-in_default-clause-same
returns-in_default-clause-same g c =
    c.self.view_is

pub returns-in-Err-clause-same : goal.returns-in-Err-clause-same
returns-in-Err-clause-same g c =
    c.self.view_is

pub returns-in-Err-Bound-clause-same : goal.returns-in-Err-Bound-clause-same
returns-in-Err-Bound-clause-same g c =
    c.self.view_is

pub returns-in-Err-NoMemory-clause-same : goal.returns-in-Err-NoMemory-clause-same
returns-in-Err-NoMemory-clause-same g c =
    c.self.view_is

pub returns-in_default-written-clause-same : goal.returns-in_default-written-clause-same
returns-in_default-written-clause-same g c =
    c.written.ensures.same ∙ c.self.view_is

pub returns-in-Ok-written-clause-same : goal.returns-in-Ok-written-clause-same
returns-in-Ok-written-clause-same g c =
    c.written.ensures.same ∙ c.self.view_is

pub returns-in_default-clause-work : goal.returns-in_default-clause-work
returns-in_default-clause-work g c =
    idle _ _ _

pub returns-in-Ok-written-clause-changes : goal.returns-in-Ok-written-clause-changes
returns-in-Ok-written-clause-changes g c =
    c.in-Ok-written.ensures.changes ∙ c.in-Ok.ensures.changes ∙ ap (λ (h : HeldState). changes_by h.plan.routes c.args.proposal.now.mv.now) c.self.view_is

pub returns-in-Ok-written-clause-made : goal.returns-in-Ok-written-clause-made
returns-in-Ok-written-clause-made g c =
    let a = c.args in
    let mv = a.proposal.now.mv.now in
    let same = c.in-Ok-written.ensures.changes ∙ c.in-Ok.ensures.changes ∙ ap (λ (h : HeldState). changes_by h.plan.routes mv) c.self.view_is in
    record {
      sound = subst (λ (h : HeldState). IsPlan h.plan.customers h.plan.routes) c.self.view_is c.in-Ok.ensures.sound;
      possible = subst (λ (n : ℕ). effect n a.self.now.plan.routes mv ≡ Some (changes_by a.self.now.plan.routes mv)) (sym c.requires.ready.customers) c.requires.passes.0.1 ∙ ap Some (sym same);
      by = c.requires.touched;
    }
