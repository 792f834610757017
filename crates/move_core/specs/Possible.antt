-- What it means that a move of each kind has an effect, as inequalities on its numbers.
use Rattle.std.specs.Prelude.{◌≡◌, ◌≢◌, ℕ, ◌+◌, ◌<◌, ◌≤◌, ◌⊎◌, List, length, false}
use Rattle.plan_core.specs.Plan.{route_at}
use Rattle.move_core.specs.Moves.{is_placed}

-- the fleet has the vehicle
pub record IsVehicle (routes : List (List ℕ)) (v : ℕ) : Type 0 where
  pub low : 1 ≤ v
  pub high : v ≤ length routes

-- the place of a route is taken
pub record IsPlace (r : List ℕ) (p : ℕ) : Type 0 where
  pub low : 1 ≤ p
  pub high : p ≤ length r

-- the customer is one of n, and stands nowhere
pub record IsFree (n : ℕ) (routes : List (List ℕ)) (c : ℕ) : Type 0 where
  pub low : 1 ≤ c
  pub high : c ≤ n
  pub free : is_placed routes c ≡ false

-- an unassigned customer may be put at a place, or after the last
pub record CanInsert (n : ℕ) (routes : List (List ℕ)) (c v p : ℕ) : Type 0 where
  pub vehicle : IsVehicle routes v
  pub customer : IsFree n routes c
  pub low : 1 ≤ p
  pub high : p ≤ length (route_at routes v) + 1

-- somebody stands at the place
pub record CanRemove (routes : List (List ℕ)) (v p : ℕ) : Type 0 where
  pub vehicle : IsVehicle routes v
  pub place : IsPlace (route_at routes v) p

-- there are n customers from a place on
pub record CanTake (routes : List (List ℕ)) (v p n : ℕ) : Type 0 where
  pub vehicle : IsVehicle routes v
  pub some : 1 ≤ n
  pub low : 1 ≤ p
  pub high : p + n ≤ length (route_at routes v) + 1

-- the place in `to`, counted once the stretch is out, is taken or comes after the last one, and the stretch does not stay where it is
pub record CanPut (routes : List (List ℕ)) (v p n to at : ℕ) : Type 0 where
  pub vehicle : IsVehicle routes to
  pub low : 1 ≤ at
  pub inside : v ≡ to → (at + n ≤ length (route_at routes to) + 1) × (at ≢ p)
  pub outside : v ≢ to → at ≤ length (route_at routes to) + 1

-- a stretch that is there is moved to such a place
pub record CanShift (routes : List (List ℕ)) (v p n to at : ℕ) : Type 0 where
  pub from : CanTake routes v p n
  pub onto : CanPut routes v p n to at

-- both places are taken, and they are not the same place
pub record CanSwap (routes : List (List ℕ)) (v p w q : ℕ) : Type 0 where
  pub vehicle : IsVehicle routes v
  pub other : IsVehicle routes w
  pub place : IsPlace (route_at routes v) p
  pub at : IsPlace (route_at routes w) q
  pub apart : v ≡ w → p ≢ q

-- a stretch of at least two customers
pub record CanReverse (routes : List (List ℕ)) (v first last : ℕ) : Type 0 where
  pub vehicle : IsVehicle routes v
  pub low : 1 ≤ first
  pub order : first < last
  pub high : last ≤ length (route_at routes v)

-- two different vehicles, with as many first customers as are kept, and not both tails empty
pub record CanCross (routes : List (List ℕ)) (v keep w keep_other : ℕ) : Type 0 where
  pub vehicle : IsVehicle routes v
  pub other : IsVehicle routes w
  pub apart : v ≢ w
  pub kept : keep ≤ length (route_at routes v)
  pub kept_other : keep_other ≤ length (route_at routes w)
  pub some : (keep < length (route_at routes v)) ⊎ (keep_other < length (route_at routes w))
