-- What is gathered before a search: the stops of the vehicles, and what the ways between them cost.
use Rattle.std.specs.Prelude.{◌≡◌, ℕ, ◌≤◌, true, false, List, ◌∷◌, ◌++◌, All}
use Rattle.callback_store.specs.Tables.{Table, table_at}
use Rattle.dimension_core.specs.Setting.{Setting}
use Rattle.plan_core.specs.Plan.{route_at}
use Rattle.gathered_ways.specs.Sums.{AreBothSums}
use Rattle.way_costs.specs.Ways.{stops, AreEdges, AreHopsFrom, AreFloors}

-- the stops of two vehicles, one after the other: the depot between them is the last stop of the one and the first of the other
abbrev pub stops_of_both : List ℕ → List ℕ → List ℕ
stops_of_both r q = 0 ∷ (stops r ++ stops q)

-- of two vehicles: their stops, and the ways from each to the next
pub record SidesState : Type 0 where
  pub stops : List ℕ
  pub edges : List ℕ

pub record AreSides (s : Setting) (routes : List (List ℕ)) (v w : ℕ) (sides : SidesState) : Type 0 where
  pub stops : sides.stops ≡ stops_of_both (route_at routes v) (route_at routes w)
  pub edges : AreEdges (table_at s.tables s.cost) sides.stops sides.edges

-- the ways from some stops to others, and back
pub record TwoWays : Type 0 where
  pub out : List ℕ
  pub into : List ℕ

-- none goes from the last stop of the one side or to the first of the other: no move needs these
pub record AreWaysBetween (t : Table) (from to : List ℕ) (ways : TwoWays) : Type 0 where
  pub out : AreHopsFrom false t from to 0 1 ways.out
  pub into : AreHopsFrom true t from to 1 0 ways.into

-- each row of both has a number that none of its ways is below
pub record AreFloored (from to : List ℕ) (ways : TwoWays) : Type 0 where
  pub out : AreFloors from to 0 1 ways.out
  pub into : AreFloors from to 1 0 ways.into

-- the ways along some stops: a number that none from one to the next is above, and those over the first ones, as they are driven, then as
-- they are driven back
pub record AlongState : Type 0 where
  pub most : ℕ
  pub sums : List ℕ

-- of some stops, with the ways from each to the next
pub record IsAlong (t : Table) (stops edges : List ℕ) (along : AlongState) : Type 0 where
  pub ways : AreEdges t stops edges
  pub most : All (λ x. x ≤ along.most) edges
  pub sums : AreBothSums t stops along.sums
