use Rattle.std.proofs.Common.{ℕ, subst, None, [], arith}
use Rattle.dimension_core.specs.Setup.{setting}
use Rattle.plan_core.specs.Plan.{routes_of, route_at}
use Rattle.pin_core.specs.Pins.{pin_of, front_of}
use Rattle.board_rules.specs.History.{state_after}
use Rattle.board_core.specs.Kept.{history_of}
use Rattle.published_board.specs.Written.{AreCells}
use Rattle.board_lock.proofs.Cells.{same_cells}
use Rattle.board_lock.proofs.copies.view.Goals as goal

pub returns-clause-view : goal.returns-clause-view
returns-clause-view g c =
    let s = setting c.args.setup.now in
    let state = state_after s c.args.core.now.journal in
    let good = c.legal_histories_leave_good_states.ensures.good (history_of s c.args.core.now) c.requires.legal in
    let many = c.customers-customers.ensures.value in
    let fleet = c.vehicles-vehicles.ensures.value in
    let routes = same_cells s.vehicles [] state.routes (routes_of c.in_ok-routes.field-0.items) good.sized (subst (λ (n : ℕ). AreCells n [] (route_at state.routes) (routes_of c.in_ok-routes.field-0.items)) fleet (c.in_ok-routes.ensures s c.requires)) in
    let pinned = same_cells s.customers None state.pins.pins c.in_ok-pins.field-0.items good.pinned (subst (λ (n : ℕ). AreCells n None (pin_of state.pins) c.in_ok-pins.field-0.items) many (c.in_ok-pins.ensures s c.requires)) in
    let frozen = same_cells s.vehicles 0 state.pins.fronts c.in_ok-fronts.field-0.items good.frozen (subst (λ (n : ℕ). AreCells n 0 (front_of state.pins) c.in_ok-fronts.field-0.items) fleet (c.in_ok-fronts.ensures s c.requires)) in
    let version = c.version.ensures s c.requires in
    (λ i. record { routes = routes i; pinned = pinned i; frozen = frozen i; version = version i })

pub returns-clause-few : goal.returns-clause-few
returns-clause-few g c =
    let s = setting c.args.setup.now in
    let state = state_after s c.args.core.now.journal in
    let fleet = c.vehicles-vehicles.ensures.value in
    let cells = c.in_ok-routes.ensures s c.requires in
    let sized = cells.sized in
    let few = c.customers-customers.ensures.sound.few_vehicles in
    omega (arith, sized, fleet, few)
