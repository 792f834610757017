-- Laws of moves, each said of all plans. The public functions of `laws.rt` have them as contracts.
use Rattle.std.specs.Prelude.{◌≡◌, ◌≢◌, ℕ, ◌+◌, ◌-◌, ◌<◌, ◌≤◌, ◌↔◌, ◌⊎◌, true, List, [], ◌∷◌, ◌++◌, length, take, drop, slice_get, Some, All, Contains}
use Rattle.callback_store.specs.Tables.{Table}
use Rattle.plan_core.specs.declared.touch.Touch.{Touch}
use Rattle.plan_core.specs.Cost.{cost_of}
use Rattle.plan_core.specs.Plan.{Changes, StandsAt, IsPlaced, IsPlan, AreChanges, IsNamed, route_at, with_routes}
use Rattle.plan_core.specs.Commits.{named_vehicles}
use Rattle.plan_core.specs.Front.{common_front}
use Rattle.move_core.specs.declared.moves.Move.{Move}
use Rattle.move_core.specs.declared.moves.Move.TheVariants.{Insert, Remove, Shift, Swap, Reverse, Cross}
use Rattle.move_core.specs.Moves.{is_placed, is_possible, effect, changes_by, named_by, stretch, without, with_stretch}
use Rattle.move_core.specs.Possible.{CanInsert, CanRemove, CanShift, CanSwap, CanReverse, CanCross}
use Rattle.move_core.specs.Touched.{touched_by, untouched_of}
use Rattle.move_core.specs.Changed.{IsFirstChange, first_change}
use Rattle.move_core.specs.Rearranged.{AreRearranged, IsRearranging}

-- a move of each kind has an effect exactly where its numbers are in range
pub record MovesArePossible : Type 0 where
  pub insert : (n : ℕ) (routes : List (List ℕ)) (c v p : ℕ) → (is_possible n routes (Insert c v p) ≡ true) ↔ CanInsert n routes c v p
  pub remove : (n : ℕ) (routes : List (List ℕ)) (v p : ℕ) → (is_possible n routes (Remove v p) ≡ true) ↔ CanRemove routes v p
  pub shift : (n : ℕ) (routes : List (List ℕ)) (v p m to at : ℕ) → (is_possible n routes (Shift v p m to at) ≡ true) ↔ CanShift routes v p m to at
  pub swap : (n : ℕ) (routes : List (List ℕ)) (v p w q : ℕ) → (is_possible n routes (Swap v p w q) ≡ true) ↔ CanSwap routes v p w q
  pub reverse : (n : ℕ) (routes : List (List ℕ)) (v i j : ℕ) → (is_possible n routes (Reverse v i j) ≡ true) ↔ CanReverse routes v i j
  pub cross : (n : ℕ) (routes : List (List ℕ)) (v k w l : ℕ) → (is_possible n routes (Cross v k w l) ≡ true) ↔ CanCross routes v k w l

-- the test whether a customer stands on some route is right
abbrev pub PlacedIsTested : Type 0
PlacedIsTested = (routes : List (List ℕ)) (c : ℕ) → (is_placed routes c ≡ true) ↔ IsPlaced routes c

-- the effect of a move is new routes for the vehicles that it names, one or two of the fleet, each once and in that order
pub record MovesNameVehicles : Type 0 where
  pub named : (n : ℕ) (routes : List (List ℕ)) (mv : Move) (changes : Changes) → effect n routes mv ≡ Some changes → named_vehicles changes ≡ named_by mv
  pub changes : (n : ℕ) (routes : List (List ℕ)) (mv : Move) (changes : Changes) → effect n routes mv ≡ Some changes → AreChanges (length routes) changes

-- a move that has an effect takes a plan to a plan, and touches customers of the plan alone
pub record MovesKeepPlans : Type 0 where
  pub plan : (n : ℕ) (routes : List (List ℕ)) (mv : Move) (changes : Changes) → IsPlan n routes → effect n routes mv ≡ Some changes → IsPlan n (with_routes changes routes)
  pub known : (n : ℕ) (routes : List (List ℕ)) (mv : Move) (changes : Changes) → IsPlan n routes → effect n routes mv ≡ Some changes
      → All (λ t. (1 ≤ t.customer) × (t.customer ≤ n)) (touched_by routes mv)

-- customers that are not touched keep their vehicle and their order among themselves; a customer on a vehicle stays on it or is touched
pub record MovesKeepTheUntouched : Type 0 where
  pub order : (n : ℕ) (routes : List (List ℕ)) (mv : Move) (changes : Changes) (v : ℕ) → effect n routes mv ≡ Some changes → 1 ≤ v
      → untouched_of routes mv (route_at (with_routes changes routes) v) ≡ untouched_of routes mv (route_at routes v)
  pub stay : (n : ℕ) (routes : List (List ℕ)) (mv : Move) (changes : Changes) (c v p : ℕ) → effect n routes mv ≡ Some changes → StandsAt routes c v p
      → ((q : ℕ) × StandsAt (with_routes changes routes) c v q) ⊎ ((k : ℕ) × ((t : Touch) × (slice_get (touched_by routes mv) k ≡ Some t) × (t.customer ≡ c)))

-- the routes that differ are those of the named vehicles, and each differs first at the place that the move's numbers say
pub record FrontsByFirstChange : Type 0 where
  pub place : (n : ℕ) (routes : List (List ℕ)) (mv : Move) (changes : Changes) (v : ℕ) → IsPlan n routes → effect n routes mv ≡ Some changes → IsNamed changes v
      → IsFirstChange (route_at routes v) (route_at (with_routes changes routes) v) (first_change mv v)
  pub differ : (n : ℕ) (routes : List (List ℕ)) (mv : Move) (changes : Changes) (v : ℕ) → IsPlan n routes → effect n routes mv ≡ Some changes → IsNamed changes v
      → route_at (with_routes changes routes) v ≢ route_at routes v
  pub others : (n : ℕ) (routes : List (List ℕ)) (mv : Move) (changes : Changes) (v : ℕ) → effect n routes mv ≡ Some changes → 1 ≤ v → ¬ IsNamed changes v
      → route_at (with_routes changes routes) v ≡ route_at routes v
  pub front : (n : ℕ) (routes : List (List ℕ)) (mv : Move) (changes : Changes) (v f : ℕ) → IsPlan n routes → effect n routes mv ≡ Some changes → IsNamed changes v
      → (take f (route_at (with_routes changes routes) v) ≡ take f (route_at routes v)) ↔ (f < first_change mv v)
  pub common : (n : ℕ) (routes : List (List ℕ)) (mv : Move) (changes : Changes) (v : ℕ) → IsPlan n routes → effect n routes mv ≡ Some changes → IsNamed changes v
      → common_front (route_at routes v) (route_at (with_routes changes routes) v) + 1 ≡ first_change mv v

-- a move of one vehicle, other than Insert and Remove, leaves each customer on the route as often as before
abbrev pub MovesInsideRearrange : Type 0
MovesInsideRearrange = (n : ℕ) (routes : List (List ℕ)) (mv : Move) (v : ℕ) (r : List ℕ) → IsRearranging mv → effect n routes mv ≡ Some ((v, r) ∷ [])
    → AreRearranged (route_at routes v) r

-- a customer that a move between two vehicles touches stands on one of them before and on the other afterwards
abbrev pub MovesBetweenCarryOver : Type 0
MovesBetweenCarryOver = (n : ℕ) (routes : List (List ℕ)) (mv : Move) (v w : ℕ) (r q : List ℕ) → effect n routes mv ≡ Some ((v, r) ∷ (w, q) ∷ [])
    → (k : ℕ) (t : Touch) → slice_get (touched_by routes mv) k ≡ Some t
    → ((t.vehicle ≡ v) × Contains (route_at routes v) t.customer × Contains q t.customer)
    ⊎ ((t.vehicle ≡ w) × Contains (route_at routes w) t.customer × Contains r t.customer)

-- the new route of a shift inside a vehicle as parts of the old one, where the stretch moves forwards and where it moves back
pub record ShiftsInParts : Type 0 where
  pub before : (r : List ℕ) (p n at : ℕ) → 1 ≤ at → at ≤ p → p ≤ length r + 1
      → with_stretch (without r p n) at (stretch r p n) ≡ take (at - 1) r ++ (stretch r p n ++ (take (p - at) (drop (at - 1) r) ++ drop (p - 1 + n) r))
  pub after : (r : List ℕ) (p n at : ℕ) → 1 ≤ p → p ≤ at → at + n ≤ length r + 1
      → with_stretch (without r p n) at (stretch r p n) ≡ take (p - 1) r ++ (take (at - p) (drop (p - 1 + n) r) ++ (stretch r p n ++ drop (at - 1 + n) r))

-- the vehicles that a move names have the same routes in two plans
abbrev pub AgreeOnNamed : Move → List (List ℕ) → List (List ℕ) → Type 0
AgreeOnNamed mv routes later = All (λ v. route_at later v ≡ route_at routes v) (named_by mv)

-- Where the named vehicles have the same routes in two plans, the move makes the same new routes in both. Where it has an effect in both,
-- the costs of the two plans differ by the same, and so it saves the same.
pub record MovesSaveTheSame : Type 0 where
  pub routes : (routes later : List (List ℕ)) (mv : Move) → AgreeOnNamed mv routes later → changes_by later mv ≡ changes_by routes mv
  pub costs : (t : Table) (n : ℕ) (routes later : List (List ℕ)) (mv : Move) → AgreeOnNamed mv routes later
      → effect n routes mv ≡ Some (changes_by routes mv) → effect n later mv ≡ Some (changes_by later mv)
      → cost_of t (with_routes (changes_by later mv) later) + cost_of t routes ≡ cost_of t (with_routes (changes_by routes mv) routes) + cost_of t later
  pub saved : (t : Table) (n : ℕ) (routes later : List (List ℕ)) (mv : Move) (saving : ℕ) → AgreeOnNamed mv routes later
      → effect n routes mv ≡ Some (changes_by routes mv) → effect n later mv ≡ Some (changes_by later mv)
      → cost_of t (with_routes (changes_by routes mv) routes) + saving ≡ cost_of t routes
      → cost_of t (with_routes (changes_by later mv) later) + saving ≡ cost_of t later
