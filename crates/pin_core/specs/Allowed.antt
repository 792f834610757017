use Rattle.std.specs.Prelude.{◌≡◌, ℕ, ◌<◌, ◌⊎◌, List, slice_get, Some}
use Rattle.plan_core.specs.declared.touch.Touch.{Touch}
use Rattle.plan_core.specs.Plan.{StandsAt}
use Rattle.pin_core.specs.declared.fault.PinFault.{PinFault}
use Rattle.pin_core.specs.declared.fault.PinFault.TheVariants.{Frozen, Pinned}
use Rattle.pin_core.specs.Pins.{PinState, StandsOn, IsHeld, IsFrontKept, AreFreezesKept}

-- x is the first of a list for which P fails
pub record IsFirstFailing {X : Type 0} (P : X → Type 0) (xs : List X) (k : ℕ) (x : X) : Type 0 where
  pub found : slice_get xs k ≡ Some x
  pub fails : ¬ P x
  pub before : (j : ℕ) (y : X) → j < k → slice_get xs j ≡ Some y → P y

-- v is the first of some vehicles whose frozen front differs
abbrev pub IsFirstThawed : PinState → List (List ℕ) → List (List ℕ) → List ℕ → ℕ → Type 0
IsFirstThawed s routes others vehicles v = (k : ℕ) × IsFirstFailing (IsFrontKept s routes others) vehicles k v

-- t is the first of some touches whose customer is pinned and does not stand on its vehicle
abbrev pub IsFirstLoose : PinState → List (List ℕ) → List Touch → Touch → Type 0
IsFirstLoose s others touched t = (k : ℕ) × IsFirstFailing (λ u. IsHeld s others u.customer) touched k t

-- customer c is touched
abbrev pub IsTouched : List Touch → ℕ → Type 0
IsTouched touched c = (k : ℕ) × ((t : Touch) × (slice_get touched k ≡ Some t) × (t.customer ≡ c))

-- every customer that stands on some vehicle stays on it or is touched
abbrev pub AreAllTouched : List (List ℕ) → List (List ℕ) → List Touch → Type 0
AreAllTouched routes others touched = (c v p : ℕ) → StandsAt routes c v p → StandsOn others c v ⊎ IsTouched touched c

-- the fault of the new routes: the first named vehicle whose front differs, or else the first touch that breaks a pin
abbrev pub IsPinFault : PinState → List (List ℕ) → List (List ℕ) → List ℕ → List Touch → PinFault → Type 0
IsPinFault s routes others vehicles touched (Frozen v) = IsFirstThawed s routes others vehicles v
IsPinFault s routes others vehicles touched (Pinned v p) =
    AreFreezesKept s routes others × ((t : Touch) × IsFirstLoose s others touched t × (t.vehicle ≡ v) × (t.place ≡ p))
