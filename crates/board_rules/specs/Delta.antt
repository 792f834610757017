-- What one call changes: the difference of two states, and the new routes that it gives.
use Rattle.std.specs.Prelude.{◌≡◌, ◌≢◌, ℕ, ◌+◌, ◌≤◌, ◌==◌, nat_eq, List, length, map, position, Option, Some, None, Contains}
use Rattle.std.specs.List.{IsDistinct, range_with_len}
use Rattle.std.specs.Option.{option_map}
use Rattle.dimension_core.specs.Setting.{Setting}
use Rattle.plan_core.specs.Plan.{Changes, AreApart, route_at, with_routes, with_stamps}
use Rattle.plan_core.specs.Commits.{last_commit}
use Rattle.pin_core.specs.Pins.{pin_of, front_of}
use Rattle.board_rules.specs.declared.call.Entry.{Entry}
use Rattle.board_rules.specs.Pinning.{vehicle_of}
use Rattle.board_rules.specs.State.{BoardState}
use Rattle.board_rules.specs.Step.{after}

-- the changes as contracts see them: customers with their vehicle and place, or none; customers with their pin; vehicles with their
-- frozen length; and the version
pub record DeltaShown : Type 0 where
  pub places : List (ℕ × Option (ℕ × ℕ))
  pub pins : List (ℕ × Option ℕ)
  pub frozen : List (ℕ × ℕ)
  pub version : ℕ

-- the vehicle and the place of a customer, if it stands somewhere
abbrev pub spot_on : List (List ℕ) → ℕ → Option ℕ → Option (ℕ × ℕ)
spot_on routes c None = None
spot_on routes c (Some v) = option_map {U = ℕ × ℕ} (λ k. (v, k + 1)) (position (λ d. d == c) (route_at routes v))

abbrev pub spot_in : List (List ℕ) → ℕ → Option (ℕ × ℕ)
spot_in routes c = spot_on routes c (vehicle_of routes c)

-- the changes are those of the numbers 1 to n whose value differs, each once and with the new value
pub record AreChangesOf {V : Type 0} (n : ℕ) (old new : ℕ → V) (changes : List (ℕ × V)) : Type 0 where
  pub once : IsDistinct nat_eq (map (λ c. c.0) changes)
  pub made : (k : ℕ) (value : V) → Contains changes (k, value) → (1 ≤ k) × (k ≤ n) × (value ≡ new k) × (new k ≢ old k)
  pub all : (k : ℕ) → 1 ≤ k → k ≤ n → new k ≢ old k → Contains changes (k, new k)

-- the changes are the difference of two states
pub record IsDelta (s : Setting) (old new : BoardState) (delta : DeltaShown) : Type 0 where
  pub places : AreChangesOf s.customers (spot_in old.routes) (spot_in new.routes) delta.places
  pub pins : AreChangesOf s.customers (pin_of old.pins) (pin_of new.pins) delta.pins
  pub frozen : AreChangesOf s.vehicles (front_of old.pins) (front_of new.pins) delta.frozen
  pub version : delta.version ≡ length new.commits

-- the changes are those of an entry in a state
abbrev pub IsDeltaOf : Setting → BoardState → Entry → DeltaShown → Type 0
IsDeltaOf s state e delta = IsDelta s state (after state e.call e.reply) delta

-- for each vehicle from 1 to n the number of the last commit that changed it, 0 where there is none
abbrev pub stamps_of : ℕ → List (List ℕ) → List ℕ
stamps_of n commits = map (λ v. last_commit v commits) (range_with_len 1 n)

-- New routes lead from one state to another: they are of vehicles of the fleet, each once, and the routes and the stamps of the other
-- state are those of the one with the named vehicles changed.
pub record AreRoutesOf (old new : BoardState) (changes : Changes) : Type 0 where
  pub apart : AreApart (length old.routes) changes
  pub routes : with_routes changes old.routes ≡ new.routes
  pub stamps : stamps_of (length old.routes) new.commits ≡ with_stamps changes (length new.commits) (stamps_of (length old.routes) old.commits)
