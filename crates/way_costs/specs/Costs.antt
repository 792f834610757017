-- What a plan costs before a move and after it, and what the move saves.
use Rattle.std.specs.Prelude.{◌≡◌, ℕ, ◌+◌, List}
use Rattle.callback_store.specs.Tables.{table_at}
use Rattle.dimension_core.specs.Setting.{Setting}
use Rattle.plan_core.specs.Plan.{with_routes}
use Rattle.plan_core.specs.Cost.{cost_of}
use Rattle.pin_core.specs.View.{ViewState}
use Rattle.move_core.specs.declared.moves.Move.{Move}
use Rattle.move_core.specs.Moves.{changes_by}

-- the routes after a move
abbrev pub routes_after : ViewState → Move → List (List ℕ)
routes_after view mv = with_routes (changes_by view.routes mv) view.routes

-- the cost before and after it
abbrev pub cost_before : Setting → ViewState → ℕ
cost_before s view = cost_of (table_at s.tables s.cost) view.routes

abbrev pub cost_after : Setting → ViewState → Move → ℕ
cost_after s view mv = cost_of (table_at s.tables s.cost) (routes_after view mv)

-- the move loses ways of one cost and gains ways of another
abbrev pub IsSaving : Setting → ViewState → Move → ℕ → ℕ → Type 0
IsSaving s view mv lost gained = cost_after s view mv + lost ≡ cost_before s view + gained
