-- What is searched, and what is gathered of it.
use Rattle.std.specs.Prelude.{◌≡◌, ◌≢◌, ◌≤◌, ℕ, ◌-◌, ◌^◌, true, false, Bool, List, length, All}
use Rattle.callback_store.specs.Tables.{Table, table_at}
use Rattle.dimension_core.specs.Setting.{Setting}
use Rattle.dimension_core.specs.Setup.{setting}
use Rattle.pin_core.specs.View.{ViewState}
use Rattle.move_core.specs.declared.moves.Move.{Move}
use Rattle.move_core.specs.Moves.{is_possible}
use Rattle.way_costs.specs.Costs.{cost_before, cost_after, IsSaving}
use Rattle.way_costs.specs.Ways.{AreStops, AreEdges, AreHopsFrom, AreFloors, AreSums}
use Rattle.move_judge.specs.Kept.{KeptSpans, AreKept}
use Rattle.move_judge.specs.Scope.{scope}
use Rattle.move_judge.specs.View.{IsViewOf}
use Rattle.best_moves.specs.Best.{Counts, IsBest, IsIdle}
use Rattle.best_moves.specs.Laws.{Laws}
use Rattle.best_moves.specs.declared.searched.Search.{Search}
use Rattle.best_moves.specs.declared.searched.Gathered.{Gathered}

-- what is searched: the moves near two vehicles of a plan, or inside one, but those to be skipped; whether they are judged by the
-- dimensions, and what is kept of these for each vehicle
pub record Searched : Type 0 where
  pub setting : Setting
  pub view : ViewState
  pub skip : List Move
  pub bounded : Bool
  pub v : ℕ
  pub w : ℕ
  pub v_kept : KeptSpans
  pub w_kept : KeptSpans

abbrev pub searched : {i j : Type 0} {held : i → Type 0} {holds : j → Type 0} {calls : _} {asks : _} → Search i j held holds calls asks → Searched
searched search = record {
  setting = setting search.setup.now;
  view = search.view.now;
  skip = search.skip.now;
  bounded = search.bounded;
  v = search.v;
  w = search.w;
  v_kept = search.v_kept.now;
  w_kept = search.w_kept.now;
}

-- what the search stands on: the laws of moves, a view of a feasible plan, and that what is kept is kept of that plan
pub record IsSearch (q : Searched) : Type 0 where
  pub laws : Laws
  pub view : IsViewOf q.setting q.view
  pub v_kept : AreKept q.setting q.view.routes q.v q.w q.v_kept
  pub w_kept : AreKept q.setting q.view.routes q.w q.v q.w_kept

-- the setting by which moves are allowed
abbrev pub scope_of : Searched → Setting
scope_of q = scope q.bounded q.setting

-- the move counts
abbrev pub CountsIn : Searched → Move → Type 0
CountsIn q = Counts (scope_of q) q.view q.skip q.v q.w

-- no move counts
abbrev pub IsIdleOf : Searched → Type 0
IsIdleOf q = IsIdle (scope_of q) q.view q.skip q.v q.w

-- the best move, and its gain
abbrev pub IsBestOf : Searched → Move → ℕ → Type 0
IsBestOf q = IsBest (scope_of q) q.view q.skip q.v q.w

-- the move has an effect
abbrev pub IsPossible : Searched → Move → Type 0
IsPossible q mv = is_possible q.setting.customers q.view.routes mv ≡ true

-- the costs of the ways
abbrev pub costs_of : Searched → Table
costs_of q = table_at q.setting.tables q.setting.cost

-- the cost of the plan, and after a move
abbrev pub old_cost : Searched → ℕ
old_cost q = cost_before q.setting q.view

abbrev pub new_cost : Searched → Move → ℕ
new_cost q = cost_after q.setting q.view

-- the move loses ways of one cost and gains ways of another
abbrev pub Saves : Searched → Move → ℕ → ℕ → Type 0
Saves q = IsSaving q.setting q.view

-- the stops of both vehicles, the ways along each, none of the second dearer than a number, and the ways from the first to the second
-- and back; of two vehicles, each row of these has a number that none of its ways is below
pub record IsGathered (q : Searched) (g : Gathered) : Type 0 where
  pub from : AreStops q.setting.customers q.view.routes q.v g.from.now
  pub to : AreStops q.setting.customers q.view.routes q.w g.to.now
  pub from_edges : AreEdges (costs_of q) g.from.now g.from_edges.now
  pub to_edges : AreEdges (costs_of q) g.to.now g.to_edges.now
  pub most : All (λ x. x ≤ g.most) g.to_edges.now
  pub out : AreHopsFrom false (costs_of q) g.from.now g.to.now 0 1 g.out.now
  pub into : AreHopsFrom true (costs_of q) g.from.now g.to.now 1 0 g.into.now
  pub out_floors : q.v ≢ q.w → AreFloors g.from.now g.to.now 0 1 g.out.now
  pub into_floors : q.v ≢ q.w → AreFloors g.from.now g.to.now 1 0 g.into.now

-- the ways over the first stops of a vehicle, as they are driven and as they are driven back
pub record AreSummed (q : Searched) (g : Gathered) (on back : List ℕ) : Type 0 where
  pub sums : AreSums false (costs_of q) g.from.now (length g.from.now - 1) on
  pub back_sums : AreSums true (costs_of q) g.from.now (length g.from.now - 1) back
  pub small : All (λ x. x ≤ 2 ^ 42) on × All (λ x. x ≤ 2 ^ 42) back
