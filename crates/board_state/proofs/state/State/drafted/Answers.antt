use Rattle.std.proofs.Common.{◌≡◌, true, sym, subst, List, All, ◌≤◌}
use Rattle.plan_core.specs.declared.touch.Touch.{Touch}
use Rattle.plan_core.specs.Plan.{IsPlan, AreSizes, with_routes}
use Rattle.pin_core.specs.Allowed.{AreAllTouched}
use Rattle.move_core.specs.Moves.{is_possible, changes_by}
use Rattle.board_state.specs.Held.{HeldState}
use Rattle.board_state.proofs.NewPlans.{short_routes, has_effect}
use Rattle.board_state.proofs.state.State.drafted.Goals as goal

pub drafts_in-requires : goal.drafts_in-requires
drafts_in-requires c =
    let held = c.args.self.now in
    let mv = c.args.mv.now in
    subst (λ (h : HeldState). is_possible h.plan.customers h.plan.routes mv ≡ true) (sym c.self.view_is)
    (has_effect (is_possible held.plan.customers held.plan.routes mv) (changes_by held.plan.routes mv) c.requires.effect)

pub returns-in-Ok-clause-placeable : goal.returns-in-Ok-clause-placeable
returns-in-Ok-clause-placeable c =
    let held = c.args.self.now in
    let mv = c.args.mv.now in
    let changes = changes_by held.plan.routes mv in
    let plan = subst (λ (h : HeldState). IsPlan h.plan.customers h.plan.routes) c.self.view_is c.customers-sound.ensures.sound in
    record {
      pinned = c.requires.pinned;
      frozen = c.requires.frozen;
      holding = c.requires.holding;
      fitting = c.requires.fitting;
      changes = c.moves_name_vehicles.ensures.changes held.plan.customers held.plan.routes mv changes c.requires.effect;
      plan = c.moves_keep_plans.ensures.plan held.plan.customers held.plan.routes mv changes plan c.requires.effect;
      known = subst (λ (ts : List Touch). All (λ t. (1 ≤ t.customer) × (t.customer ≤ held.plan.customers)) ts) (sym c.requires.touched)
          (c.moves_keep_plans.ensures.known held.plan.customers held.plan.routes mv changes plan c.requires.effect);
      touched = subst (λ (ts : List Touch). AreAllTouched held.plan.routes (with_routes changes held.plan.routes) ts) (sym c.requires.touched)
          (λ d v p at. c.moves_keep_the_untouched.ensures.stay held.plan.customers held.plan.routes mv changes d v p c.requires.effect at);
    }

pub returns-in-Ok-clause-short : goal.returns-in-Ok-clause-short
returns-in-Ok-clause-short c =
    let held = c.args.self.now in
    let mv = c.args.mv.now in
    let changes = changes_by held.plan.routes mv in
    let plan = subst (λ (h : HeldState). IsPlan h.plan.customers h.plan.routes) c.self.view_is c.customers-sound.ensures.sound in
    let sizes = subst (λ (h : HeldState). AreSizes h.plan) c.self.view_is c.customers-sound.ensures.sizes in
    short_routes held.plan.customers 1000 changes held.plan.routes sizes.customers
    (c.moves_keep_plans.ensures.plan held.plan.customers held.plan.routes mv changes plan c.requires.effect)
    (c.moves_name_vehicles.ensures.changes held.plan.customers held.plan.routes mv changes c.requires.effect).apart
    c.routes_are_known.ensures.new_short
