use Rattle.std.proofs.Common.{◌∙◌, ℕ, List, ap, sym, subst, length}
use Rattle.plan_core.specs.Plan.{IsPlan}
use Rattle.pin_core.specs.Pins.{DoPinsHold, DoFrontsFit}
use Rattle.pin_core.specs.View.{pins_of}
use Rattle.neighbourhood_tests.proofs.views.is_view.Goals as goal

pub returns : goal.returns
returns g c = λ _.
    let same = c.requires.same in
    let sized = c.is_sized.ensures c.if-not-is_sized.false in
    record {
      plan = subst (λ (n : ℕ). IsPlan n c.args.view.now.routes) c.requires.customers
          (subst (λ (r : List (List ℕ)). IsPlan c.args.plan.now.customers r) (sym same) c.customers-sound.ensures.sound);
      vehicles = ap length same ∙ c.requires.vehicles;
      pinned = sized.0 ∙ c.requires.customers;
      frozen = sized.1 ∙ c.requires.vehicles;
      feasible = c.is_feasible.ensures c.if-not-is_feasible.false;
      holding = subst (λ (r : List (List ℕ)). DoPinsHold (pins_of c.args.view.now) r) (sym same) (c.do_pins_hold.ensures c.if-not-do_pins_hold.false);
      fitting = subst (λ (r : List (List ℕ)). DoFrontsFit (pins_of c.args.view.now) r) (sym same) (c.do_fronts_fit.ensures c.if-not-do_fronts_fit.false);
    }
