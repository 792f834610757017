-- Cells as lists, and which plan they are.
use Rattle.std.specs.Prelude.{◌≡◌, ℕ, ◌≤◌, List, length, None, option_to_list}
use Rattle.dimension_core.specs.Setting.{Setting}
use Rattle.plan_core.specs.Plan.{route_at}
use Rattle.pin_core.specs.Pins.{pin_of, front_of}
use Rattle.pin_core.specs.View.{ViewState}
use Rattle.board_rules.specs.declared.call.Entry.{Entry}
use Rattle.board_rules.specs.State.{BoardState}
use Rattle.board_rules.specs.History.{state_after}
use Rattle.published_board.specs.declared.change.Change.{Change}
use Rattle.published_board.specs.declared.shown.Cells.{Cells}
use Rattle.published_board.specs.declared.shown.Shelf.{Shelf}
use Rattle.published_board.specs.declared.shown.Mark.{Mark}
use Rattle.published_board.specs.Reached.{Reached}
use Rattle.published_board.specs.Written.{AreCells, written}
use Rattle.published_board.specs.Lanes.{lane_at, route_in, lanes_after, since_after}
use Rattle.published_board.specs.Staying.{Stays}

abbrev pub cells_of : Cells → Shelf
cells_of x = record { lanes = x.lanes.items; pins = x.pins.items; frozen = x.frozen.items; version = x.version; entries = x.entries; moved = x.moved; turned = x.turned }

-- the cells once an entry of this number, of which the log tells, made these changes
abbrev pub cells_after : Reached → ℕ → Shelf → Change → Shelf
cells_after base n p c = record {
  lanes = lanes_after base n (lanes_after base n p.lanes (option_to_list c.first)) (option_to_list c.second);
  pins = written p.pins c.pins.items;
  frozen = written p.frozen (option_to_list c.front);
  version = c.version;
  entries = n;
  moved = since_after (since_after p.moved n (option_to_list c.first)) n (option_to_list c.second);
  turned = since_after (since_after p.turned n c.pins.items) n (option_to_list c.front);
}

-- the lane is the vehicle's, its route is the one that stands there after these entries, and it has stood there since
pub record IsLane (s : Setting) (es : List Entry) (v : ℕ) (m : Mark) : Type 0 where
  pub vehicle : m.vehicle ≡ v
  pub route : route_in m ≡ route_at (state_after s es).routes v
  pub stays : Stays (λ xs. route_at (state_after s xs).routes v) m.entry es

-- The cells are the plan, pins and freezes after these entries, and how many commits and entries there were. No route changed since entry
-- `moved`, and no pin and no frozen length since entry `turned`.
pub record Shows (s : Setting) (es : List Entry) (p : Shelf) : Type 0 where
  pub sized : length p.lanes ≡ s.vehicles
  pub lanes : (v : ℕ) → 1 ≤ v → v ≤ s.vehicles → IsLane s es v (lane_at p.lanes v)
  pub pins : AreCells s.customers None (pin_of (state_after s es).pins) p.pins
  pub frozen : AreCells s.vehicles 0 (front_of (state_after s es).pins) p.frozen
  pub version : p.version ≡ length (state_after s es).commits
  pub entries : p.entries ≡ length es
  pub moved : Stays (λ xs. (state_after s xs).routes) p.moved es
  pub turned : Stays (λ xs. (state_after s xs).pins) p.turned es

-- the plan, pins and freezes of a state, and its version
abbrev pub view_of : BoardState → ViewState
view_of state = record { routes = state.routes; pinned = state.pins.pins; frozen = state.pins.fronts; version = length state.commits }
