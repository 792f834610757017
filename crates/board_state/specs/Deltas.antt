-- What a judged change makes different, as lists: where customers stand, their pins, and the frozen lengths.
use Rattle.std.specs.Prelude.{ℕ, ◌+◌, ◌-◌, ◌≡◌, ◌≤◌, Bool, true, not, ◌&&◌, ◌==◌, nat_le, List, [], ◌∷◌, ◌++◌, length, map, filter, drop, zip, flat_map, slice_get, slice_index, Option, Some, None}
use Rattle.std.specs.Option.{option_map, option_to_list}
use Rattle.plan_core.specs.declared.touch.Touch.{Touch}
use Rattle.plan_core.specs.Plan.{Changes, changes_of, route_at}
use Rattle.pin_core.specs.Pins.{PinState, IsHeld}
use Rattle.pin_core.specs.Override.{DoPinsPass}
use Rattle.move_core.specs.declared.moves.Move.{Move}
use Rattle.move_core.specs.declared.moves.Move.TheVariants.{Remove}
use Rattle.move_core.specs.Moves.{named_by, customer_at}
use Rattle.move_core.specs.Touched.{touches}
use Rattle.move_core.specs.Changed.{first_change}
use Rattle.board_state.specs.declared.change.Change.{Change}
use Rattle.board_state.specs.declared.change.Change.TheVariants.{Replace, Pins}
use Rattle.board_state.specs.declared.change.PinChange.{PinChange}
use Rattle.board_state.specs.declared.change.PinChange.TheVariants.{Pin, Unpin, Front}
use Rattle.board_state.specs.Held.{HeldState, routes_with}

-- ---- places

-- a spot as the value that its customer has afterwards
abbrev pub spot_change : Touch → ℕ × Option (ℕ × ℕ)
spot_change t = (t.customer, Some (t.vehicle, t.place))

-- whether a customer stood at its place on the old route already
abbrev pub stood_there : List ℕ → Touch → Bool
stood_there old t = nat_le t.place (length old) && (slice_index old (t.place - 1) == t.customer)

-- of the customers that stand on a vehicle from a place on, those that did not stand there on its old route
abbrev pub spots_behind : ℕ → ℕ → List ℕ → List ℕ → List (ℕ × Option (ℕ × ℕ))
spots_behind vehicle place old tail = map spot_change (filter (λ t. not (stood_there old t)) (touches vehicle place tail))

-- how many of the first customers of a named vehicle's route a move leaves as they are
abbrev pub kept_by : Move → ℕ → ℕ
kept_by mv v = first_change mv v - 1

-- the new spots on a named vehicle
abbrev pub new_spots : List (List ℕ) → List (List ℕ) → Move → ℕ → List (ℕ × Option (ℕ × ℕ))
new_spots routes others mv v = spots_behind v (kept_by mv v + 1) (route_at routes v) (drop (kept_by mv v) (route_at others v))

-- the customer that a move takes off the plan
abbrev pub taken_off : List (List ℕ) → Move → Option ℕ
taken_off routes (Remove vehicle place) = Some (customer_at (route_at routes vehicle) place)
taken_off routes _ = None

-- the new spots on the vehicles that a move names, in its order, and the customer that no longer stands anywhere
abbrev pub places_by : List (List ℕ) → List (List ℕ) → Move → List (ℕ × Option (ℕ × ℕ))
places_by routes others mv = flat_map (new_spots routes others mv) (named_by mv)
    ++ option_to_list (option_map {U = ℕ × Option (ℕ × ℕ)} (λ c. (c, None)) (taken_off routes mv))

-- ---- pins

-- each marked touch is of a customer that leaves the vehicle of its pin
abbrev pub DoMarkedLeave : PinState → List (List ℕ) → List Touch → List Bool → Type 0
DoMarkedLeave pins others touched marks =
    (k : ℕ) (t : Touch) → slice_get touched k ≡ Some t → slice_get marks k ≡ Some true → ¬ IsHeld pins others t.customer

-- Marks for the touches in order: a marked customer leaves the vehicle of its pin, and each one that leaves it is marked.
pub record AreFreed (pins : PinState) (others : List (List ℕ)) (touched : List Touch) (freed : List Bool) : Type 0 where
  pub short : length freed ≤ length touched
  pub leave : DoMarkedLeave pins others touched freed
  pub stay : DoPinsPass pins others touched freed

-- the pins of the marked customers are gone
abbrev pub released : List Touch → List Bool → List (ℕ × Option ℕ)
released touched freed = map (λ x. (x.1.customer, None)) (filter (λ x. x.0) (zip freed touched))

-- ---- all of a change

-- the new routes: those of a commit, and none of every other change
abbrev pub changed_routes : Change → Changes
changed_routes (Replace commit) = changes_of commit.new.changes.items
changed_routes _ = []

abbrev pub changed_places : HeldState → Change → List (ℕ × Option (ℕ × ℕ))
changed_places held (Replace commit) = places_by held.plan.routes (routes_with held commit.new.changes.items) commit.mv
changed_places held _ = []

abbrev pub pin_changes : PinChange → List (ℕ × Option ℕ)
pin_changes (Pin customer vehicle) = (customer, Some vehicle) ∷ []
pin_changes (Unpin customer) = (customer, None) ∷ []
pin_changes (Front vehicle n) = []

abbrev pub front_changes : PinChange → List (ℕ × ℕ)
front_changes (Front vehicle n) = (vehicle, n) ∷ []
front_changes _ = []

abbrev pub changed_pins : Change → List (ℕ × Option ℕ)
changed_pins (Replace commit) = released commit.new.touched.items commit.new.freed.items
changed_pins (Pins change) = pin_changes change
changed_pins _ = []

abbrev pub changed_fronts : Change → List (ℕ × ℕ)
changed_fronts (Pins change) = front_changes change
changed_fronts _ = []
