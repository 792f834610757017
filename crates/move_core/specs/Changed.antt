use Rattle.std.specs.Prelude.{◌≡◌, ◌≢◌, ℕ, ◌+◌, ◌-◌, ◌≤◌, ◌==◌, min, if◌then◌else◌, List, take, slice_get}
use Rattle.move_core.specs.declared.moves.Move.{Move}
use Rattle.move_core.specs.declared.moves.Move.TheVariants.{Insert, Remove, Shift, Swap, Reverse, Cross}

-- two routes are the same before a place and differ there
pub record IsFirstChange (old new : List ℕ) (p : ℕ) : Type 0 where
  pub low : 1 ≤ p
  pub same : take (p - 1) new ≡ take (p - 1) old
  pub differs : slice_get new (p - 1) ≢ slice_get old (p - 1)

-- the first place at which the route of a named vehicle changes
abbrev pub first_change : Move → ℕ → ℕ
first_change (Insert customer vehicle place) v = place
first_change (Remove vehicle place) v = place
first_change (Shift vehicle place n to at) v = if vehicle == to then min place at else if v == vehicle then place else at
first_change (Swap vehicle place other at) v = if vehicle == other then min place at else if v == vehicle then place else at
first_change (Reverse vehicle first last) v = first
first_change (Cross vehicle keep other keep_other) v = if v == vehicle then keep + 1 else keep_other + 1
