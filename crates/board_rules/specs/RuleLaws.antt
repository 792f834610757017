-- What those have passed that came as far as a rule.
use Rattle.std.specs.Prelude.{ℕ}
use Rattle.dimension_core.specs.Setting.{Setting}
use Rattle.pin_core.specs.Pins.{AreFreezesKept}
use Rattle.move_core.specs.declared.moves.Move.{Move}
use Rattle.board_rules.specs.Rules.{Basis, PassesEffect, PassesCustomers, PassesFronts, PassesPins, PassesAll, routes_after}

module _ (s : Setting) (b : Basis) (base : ℕ) (mv : Move) where
  pub effect_by_customers : PassesCustomers s b base mv → PassesEffect s b base mv
  effect_by_customers h = h.0

  pub effect_by_fronts : PassesFronts s b base mv → PassesEffect s b base mv
  effect_by_fronts h = effect_by_customers h.0

  pub effect_by_pins : PassesPins s b base mv → PassesEffect s b base mv
  effect_by_pins h = effect_by_fronts h.0

  pub effect_by_all : PassesAll s b base mv → PassesEffect s b base mv
  effect_by_all h = effect_by_pins h.0

  pub fronts_by_all : PassesAll s b base mv → AreFreezesKept b.pins b.routes (routes_after b.routes mv)
  fronts_by_all h = h.0.0.1
