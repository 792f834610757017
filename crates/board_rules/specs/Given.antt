-- The laws of plans, moves and pins on which the board's laws depend, as the crates below state them.
use Rattle.std.specs.Prelude.{◌≡◌, ℕ, ◌≤◌, List, length, replicate, Some, None}
use Rattle.plan_core.specs.Plan.{route_at}
use Rattle.plan_core.specs.Laws.{RoutesAreReplaced, CustomersStandByRoute, AmongIsTested}
use Rattle.pin_core.specs.Pins.{PinState, StandsOn, DoPinsHold, AreFreezesKept, DoFrontsFit, front_of, with_pin, with_front}
use Rattle.pin_core.specs.Override.{after_commit}
use Rattle.pin_core.specs.Laws.{FreezesAreByNamed}
use Rattle.move_core.specs.Laws.{MovesNameVehicles, MovesKeepPlans, MovesKeepTheUntouched, FrontsByFirstChange}

-- what keeps pins and frozen lengths
pub record PinLaws : Type 0 where
  pub held_at_first : (customers vehicles : ℕ) (routes : List (List ℕ)) → DoPinsHold (record { pins = replicate customers None; fronts = replicate vehicles 0 }) routes
  pub fit_at_first : (customers vehicles : ℕ) (routes : List (List ℕ)) → DoFrontsFit (record { pins = replicate customers None; fronts = replicate vehicles 0 }) routes
  pub pin : (s : PinState) (routes : List (List ℕ)) (c v : ℕ) → DoPinsHold s routes → 1 ≤ c → c ≤ length s.pins → StandsOn routes c v → DoPinsHold (with_pin c (Some v) s) routes
  pub unpin : (s : PinState) (routes : List (List ℕ)) (c : ℕ) → DoPinsHold s routes → 1 ≤ c → c ≤ length s.pins → DoPinsHold (with_pin c None s) routes
  pub freeze : (s : PinState) (routes : List (List ℕ)) (v f : ℕ) → DoFrontsFit s routes → 1 ≤ v → v ≤ length s.fronts → f ≤ length (route_at routes v) → DoFrontsFit (with_front v f s) routes
  pub thaw : (s : PinState) (routes : List (List ℕ)) (v f : ℕ) → DoFrontsFit s routes → 1 ≤ v → v ≤ length s.fronts → v ≤ length routes → f ≤ front_of s v → DoFrontsFit (with_front v f s) routes
  pub still : (s : PinState) (routes others : List (List ℕ)) → length others ≡ length routes → AreFreezesKept s routes others → DoFrontsFit s routes → DoFrontsFit s others
  pub named : FreezesAreByNamed
  pub released : (s : PinState) (routes : List (List ℕ)) → DoPinsHold (after_commit routes s) routes
  pub rows : (s : PinState) (routes : List (List ℕ)) → length (after_commit routes s).pins ≡ length s.pins

pub record Laws : Type 0 where
  pub routes : RoutesAreReplaced
  pub stands : CustomersStandByRoute
  pub among : AmongIsTested
  pub names : MovesNameVehicles
  pub keeps : MovesKeepPlans
  pub stays : MovesKeepTheUntouched
  pub fronts : FrontsByFirstChange
  pub pins : PinLaws
