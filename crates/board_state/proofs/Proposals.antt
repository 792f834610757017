-- What follows from judging the new routes of a proposal.
use Rattle.std.proofs.Common.{◌≡◌, ℕ, List, Some, subst, sym}
use Rattle.dimension_core.specs.Setting.{Setting}
use Rattle.dimension_core.specs.NewRoutes.{AllFit, IsOut}
use Rattle.plan_core.specs.declared.touch.Touch.{Touch}
use Rattle.plan_core.specs.Plan.{AreApart, with_routes}
use Rattle.plan_core.specs.Commits.{named_vehicles}
use Rattle.pin_core.specs.Pins.{AreFreezesKept}
use Rattle.pin_core.specs.Allowed.{IsFirstThawed}
use Rattle.move_core.specs.declared.moves.Move.{Move}
use Rattle.move_core.specs.Moves.{named_by, changes_by}
use Rattle.move_core.specs.Touched.{touched_by}
use Rattle.board_rules.specs.declared.reply.Denial.TheVariants.{NoSession, BadVehicle, AccessVehicle, Ahead, Stale, BadPlace, AccessCustomer, Frozen, Pinned, Bound}
use Rattle.board_rules.specs.Override.{DoPinsAllow, IsFirstHeldBack}
use Rattle.board_rules.specs.Rules.{IsVerdictBy, PassesCustomers, PassesAll, may_override}
use Rattle.board_state.specs.declared.stop.Stop.{Stop}
use Rattle.board_state.specs.declared.stop.Stop.TheVariants.{Denied, NoMemory}
use Rattle.board_state.specs.Held.{HeldState, IsReady, held_basis}
use Rattle.board_state.specs.Verdicts.{IsStop, IsPinStop, ArePlaceable}
use Rattle.board_state.proofs.NewPlans.{feasible_all}

-- what holds of two numbers holds of their equals
pub both_are : (P : ℕ → ℕ → Type 0) (v w d e : ℕ) → v ≡ w → d ≡ e → P w e → P v d
both_are P v w d e same alike h = subst (λ (n : ℕ). P n d) (sym same) (subst (λ (n : ℕ). P w n) (sym alike) h)

module _ (s : Setting) (held : HeldState) (session base : ℕ) (mv : Move) (ready : IsReady s held)
    (passes : PassesCustomers s (held_basis held session) base mv) (names : named_vehicles (changes_by held.plan.routes mv) ≡ named_by mv) where
  -- a pin or a front stops the proposal as it stops the new routes
  pub pin_stop : (touched : List Touch) (stop : Stop) → touched ≡ touched_by held.plan.routes mv
      → IsPinStop held.pins (may_override (held_basis held session)) held.plan.routes (changes_by held.plan.routes mv) touched stop
      → IsStop s (held_basis held session) base mv stop
  pin_stop touched (Denied (Frozen v)) same h =
      (passes, subst (λ (vehicles : List ℕ). IsFirstThawed held.pins held.plan.routes (with_routes (changes_by held.plan.routes mv) held.plan.routes) vehicles v) names h)
  pin_stop touched (Denied (Pinned v p)) same h =
      ((passes, h.0), (h.1.0, subst (λ (ts : List Touch). IsFirstHeldBack held.pins (may_override (held_basis held session)) (with_routes (changes_by held.plan.routes mv) held.plan.routes) ts h.1.0) same h.1.1, h.1.2, h.1.3))
  pin_stop touched (Denied NoSession) same h = absurd h
  pin_stop touched (Denied BadVehicle) same h = absurd h
  pin_stop touched (Denied (AccessVehicle v)) same h = absurd h
  pin_stop touched (Denied Ahead) same h = absurd h
  pin_stop touched (Denied (Stale v)) same h = absurd h
  pin_stop touched (Denied BadPlace) same h = absurd h
  pin_stop touched (Denied (AccessCustomer v p)) same h = absurd h
  pin_stop touched (Denied (Bound v d)) same h = absurd h
  pin_stop touched NoMemory same h = tt

  module _ (touched : List Touch) (placeable : ArePlaceable held (changes_by held.plan.routes mv) touched)
      (fronts : AreFreezesKept held.pins held.plan.routes (with_routes (changes_by held.plan.routes mv) held.plan.routes))
      (pins : DoPinsAllow held.pins (may_override (held_basis held session)) (with_routes (changes_by held.plan.routes mv) held.plan.routes)) where
    -- new routes that are in bounds pass every rule
    pub passes_all : AllFit s (changes_by held.plan.routes mv) → PassesAll s (held_basis held session) base mv
    passes_all fits = (
      ((passes, fronts), pins),
      feasible_all s (changes_by held.plan.routes mv) held.plan.routes ready.sized
          (subst (λ (n : ℕ). AreApart n (changes_by held.plan.routes mv)) ready.sized placeable.changes.apart) fits ready.feasible,
    )

    pub out_of_bounds : (v d : ℕ) → IsOut s (changes_by held.plan.routes mv) v d → IsVerdictBy s (held_basis held session) base mv (Some (Bound v d))
    out_of_bounds v d out = (((passes, fronts), pins), out)
