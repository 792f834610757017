use Rattle.std.proofs.Common.{◌⊎◌, List, sym, subst}
use Rattle.plan_core.specs.declared.touch.Touch.{Touch}
use Rattle.plan_core.specs.Plan.{PlanState, changes_of, with_routes}
use Rattle.pin_core.specs.Pins.{IsHeld}
use Rattle.pin_core.specs.Allowed.{IsTouched}
use Rattle.range_cache.specs.Cache.{IsCacheOf}
use Rattle.board_state.specs.Held.{HeldState}
use Rattle.board_state.proofs.state.State.replace.Goals as goal

pub release-requires-clause-touched : goal.release-requires-clause-touched
release-requires-clause-touched c d low =
    let held = c.args.self.now in
    let changes = changes_of c.args.new.changes.items in
    let here = subst (λ (h : HeldState). IsHeld h.pins (with_routes changes h.plan.routes) d ⊎ IsTouched c.args.new.touched.items d) (sym c.self.view_is) (c.requires.touched d low) in
    let after = subst (λ (p : PlanState). IsHeld c.self.inside.pins p.routes d ⊎ IsTouched c.args.new.touched.items d) (sym c.replace-changes.ensures.plan) here in
    subst (λ (ts : List Touch). IsHeld c.self.inside.pins c.replace-changes.new.self.routes d ⊎ IsTouched ts d) (sym c.deref.ensures.value) after

pub returns-clause-cache : goal.returns-clause-cache
returns-clause-cache c s routes changes was new =
    c.take-rows.ensures.cache s routes changes (subst (λ (h : HeldState). IsCacheOf s routes h.cache) (sym c.self.view_is) was) new
