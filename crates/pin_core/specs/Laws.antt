-- Laws of pins and freezes, each said of all routes. The public functions of `laws.rt` have them as contracts.
use Rattle.std.specs.Prelude.{◌≡◌, ℕ, ◌↔◌, List, length, slice_get, Some}
use Rattle.plan_core.specs.Plan.{Changes, AreApart, with_routes}
use Rattle.plan_core.specs.Commits.{named_vehicles}
use Rattle.pin_core.specs.Pins.{PinState, IsFrontKept, AreFreezesKept}

-- the freezes are kept exactly where each named vehicle keeps its front
abbrev pub FreezesAreByNamed : Type 0
FreezesAreByNamed = (s : PinState) (changes : Changes) (routes : List (List ℕ)) → AreApart (length routes) changes
    → AreFreezesKept s routes (with_routes changes routes) ↔ ((j v : ℕ) → slice_get (named_vehicles changes) j ≡ Some v → IsFrontKept s routes (with_routes changes routes) v)
