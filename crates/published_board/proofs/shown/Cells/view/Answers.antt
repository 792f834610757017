use Rattle.std.proofs.Common.{ap, map, ◌∙◌, None}
use Rattle.board_rules.specs.History.{state_after}
use Rattle.published_board.specs.Lanes.{route_in}
use Rattle.published_board.specs.Shelves.{cells_of}
use Rattle.published_board.proofs.Renewed.{routes_right, same_cells}
use Rattle.published_board.proofs.shown.Cells.view.Goals as goal

pub returns : goal.returns
returns c = λ s es good shows.
    let routes = c.in_ok-routes.ensures ∙ (ap (map route_in) c.as_slice.ensures.value ∙ routes_right s es (cells_of c.args.self.now) good shows) in
    let pinned = c.in_ok-from_slice.ensures.items ∙ (c.as_slice-2.ensures.value ∙ same_cells s.customers None (state_after s es).pins.pins c.args.self.now.pins.items good.pinned shows.pins) in
    let frozen = c.in_ok-from_slice-2.ensures.items ∙ (c.as_slice-3.ensures.value ∙ same_cells s.vehicles 0 (state_after s es).pins.fronts c.args.self.now.frozen.items good.frozen shows.frozen) in
    (λ i. record { routes = routes i; pinned = pinned i; frozen = frozen i; version = shows.version i })
