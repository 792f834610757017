-- Pins that a session may override.
use Rattle.std.specs.Prelude.{◌≡◌, ℕ, ◌≤◌, ◌⊎◌, Bool, false, List, length, slice_get, Some}
use Rattle.plan_core.specs.declared.touch.Touch.{Touch}
use Rattle.pin_core.specs.Pins.{PinState, IsHeld}
use Rattle.pin_core.specs.Allowed.{IsFirstFailing}

-- the pin of a customer does not forbid other routes: it stands on its vehicle there, or it is free to leave
abbrev pub IsAllowed : PinState → (ℕ → Bool) → List (List ℕ) → ℕ → Type 0
IsAllowed pins free others c = free c ≡ false → IsHeld pins others c

-- no pin forbids other routes
abbrev pub DoPinsAllow : PinState → (ℕ → Bool) → List (List ℕ) → Type 0
DoPinsAllow pins free others = (c : ℕ) → 1 ≤ c → IsAllowed pins free others c

-- t is the first of some touches whose customer's pin forbids other routes
abbrev pub IsFirstHeldBack : PinState → (ℕ → Bool) → List (List ℕ) → List Touch → Touch → Type 0
IsFirstHeldBack pins free others touched t = (k : ℕ) × IsFirstFailing (λ u. IsAllowed pins free others u.customer) touched k t

-- answers to the touches in order: for each whose customer would leave the vehicle of its pin, whether it is free to
pub record AreAnswers (pins : PinState) (free : ℕ → Bool) (others : List (List ℕ)) (touched : List Touch) (answers : List Bool) : Type 0 where
  pub sized : length answers ≡ length touched
  pub each : (k : ℕ) (t : Touch) → slice_get touched k ≡ Some t → IsHeld pins others t.customer ⊎ (slice_get answers k ≡ Some (free t.customer))
