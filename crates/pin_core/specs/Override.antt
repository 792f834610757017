-- Pins of which a session may override some.
use Rattle.std.specs.Prelude.{◌≡◌, ℕ, ◌+◌, ◌<◌, ◌⊎◌, ◌&&◌, nat_le, if◌then◌else◌, List, [], ◌∷◌, slice_get, Option, Some, None, Bool, true, false}
use Rattle.plan_core.specs.declared.touch.Touch.{Touch}
use Rattle.plan_core.specs.Plan.{route_at}
use Rattle.plan_core.specs.Among.{is_among}
use Rattle.pin_core.specs.declared.fault.PinFault.{PinFault}
use Rattle.pin_core.specs.declared.fault.PinFault.TheVariants.{Frozen, Pinned}
use Rattle.pin_core.specs.Pins.{PinState, IsHeld, AreFreezesKept}
use Rattle.pin_core.specs.Allowed.{IsFirstThawed}

-- the pin of the k-th touched customer does not forbid: the customer stands on its vehicle, or may leave it
abbrev pub IsPassed : PinState → List (List ℕ) → List Touch → List Bool → ℕ → Type 0
IsPassed s others touched free k = (t : Touch) → slice_get touched k ≡ Some t → IsHeld s others t.customer ⊎ (slice_get free k ≡ Some true)

-- no pin of a touched customer forbids
abbrev pub DoPinsPass : PinState → List (List ℕ) → List Touch → List Bool → Type 0
DoPinsPass s others touched free = (k : ℕ) → IsPassed s others touched free k

-- t is the first touch whose customer is pinned, does not stand on its vehicle and may not leave it
pub record IsFirstForbidden (s : PinState) (others : List (List ℕ)) (touched : List Touch) (free : List Bool) (t : Touch) : Type 0 where
  pub k : ℕ
  pub found : slice_get touched k ≡ Some t
  pub loose : ¬ IsHeld s others t.customer
  pub bound : slice_get free k ≡ Some false
  pub before : (j : ℕ) → j < k → IsPassed s others touched free j

-- the fault of the new routes, where some pins may be overridden
abbrev pub IsFaultWith : PinState → List (List ℕ) → List (List ℕ) → List ℕ → List Touch → List Bool → PinFault → Type 0
IsFaultWith s routes others vehicles touched free (Frozen v) = IsFirstThawed s routes others vehicles v
IsFaultWith s routes others vehicles touched free (Pinned v p) =
    AreFreezesKept s routes others × ((t : Touch) × IsFirstForbidden s others touched free t × (t.vehicle ≡ v) × (t.place ≡ p))

-- what is left of a customer's pin: the pin itself where the customer stands on that vehicle, or else none
abbrev pub pin_left : List (List ℕ) → ℕ → Option ℕ → Option ℕ
pin_left routes c None = None
pin_left routes c (Some v) = if nat_le 1 v && is_among c (route_at routes v) then Some v else None

-- what is left of the pins of customers c, c + 1 and so on
abbrev pub pins_left : List (List ℕ) → ℕ → List (Option ℕ) → List (Option ℕ)
pins_left routes c [] = []
pins_left routes c (pin ∷ pins) = pin_left routes c pin ∷ pins_left routes (c + 1) pins

-- the pins after a commit that made these routes: the pins before it, without those of customers that no longer stand on their vehicle; the
-- frozen lengths stay
abbrev pub after_commit : List (List ℕ) → PinState → PinState
after_commit routes s = record { pins = pins_left routes 1 s.pins; fronts = s.fronts }
