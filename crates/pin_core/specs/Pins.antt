use Rattle.std.specs.Prelude.{◌≡◌, ℕ, ◌-◌, ◌≤◌, List, length, take, slice_set, slice_index, slice_index_or, Option, Some, None}
use Rattle.plan_core.specs.Plan.{StandsAt, route_at}

-- Pins and freezes as contracts see them: for each customer (the first is customer 1) the vehicle to which it is pinned, if any, and for
-- each vehicle (the first is vehicle 1) how many of the first stops of its route are frozen.
pub record PinState : Type 0 where
  pub pins : List (Option ℕ)
  pub fronts : List ℕ

-- the vehicle to which a customer is pinned
abbrev pub pin_of : PinState → ℕ → Option ℕ
pin_of s c = slice_index_or s.pins (c - 1) None

-- the frozen length of a vehicle
abbrev pub front_of : PinState → ℕ → ℕ
front_of s v = slice_index s.fronts (v - 1)

-- the pins with another one for a customer, and the fronts with another one for a vehicle
abbrev pub with_pin : ℕ → Option ℕ → PinState → PinState
with_pin c pin s = record { pins = slice_set s.pins (c - 1) pin; fronts = s.fronts }

abbrev pub with_front : ℕ → ℕ → PinState → PinState
with_front v n s = record { pins = s.pins; fronts = slice_set s.fronts (v - 1) n }

-- customer c stands on vehicle v
abbrev pub StandsOn : List (List ℕ) → ℕ → ℕ → Type 0
StandsOn routes c v = (p : ℕ) × StandsAt routes c v p

-- customer c stands on its vehicle, if it is pinned
abbrev pub IsHeld : PinState → List (List ℕ) → ℕ → Type 0
IsHeld s routes c = (v : ℕ) → pin_of s c ≡ Some v → StandsOn routes c v

-- the pins hold: each pinned customer stands on its vehicle
abbrev pub DoPinsHold : PinState → List (List ℕ) → Type 0
DoPinsHold s routes = (c : ℕ) → 1 ≤ c → IsHeld s routes c

-- the frozen front of a vehicle is the same in other routes
abbrev pub IsFrontKept : PinState → List (List ℕ) → List (List ℕ) → ℕ → Type 0
IsFrontKept s routes others v = take (front_of s v) (route_at others v) ≡ take (front_of s v) (route_at routes v)

-- the freezes are kept: for each vehicle the first customers, as many as are frozen, are the same
abbrev pub AreFreezesKept : PinState → List (List ℕ) → List (List ℕ) → Type 0
AreFreezesKept s routes others = (v : ℕ) → 1 ≤ v → v ≤ length routes → IsFrontKept s routes others v

-- no frozen length is above its route's
abbrev pub DoFrontsFit : PinState → List (List ℕ) → Type 0
DoFrontsFit s routes = (v : ℕ) → 1 ≤ v → v ≤ length routes → front_of s v ≤ length (route_at routes v)
