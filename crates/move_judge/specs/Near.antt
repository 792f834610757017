use Rattle.std.specs.Prelude.{◌≡◌, ◌≢◌, ℕ, ◌<◌, ◌≤◌}
use Rattle.move_core.specs.declared.moves.Move.{Move}
use Rattle.move_core.specs.declared.moves.Move.TheVariants.{Insert, Remove, Shift, Swap, Reverse, Cross}

-- A move is near (v, w): where they differ a shift of 1 to 3 customers from v to w, a swap of one of v with one of w, or a cross of
-- both; where they are one a shift of 1 to 3 inside, a swap inside named from its first place, or a reverse.
abbrev pub IsNear : ℕ → ℕ → Move → Type 0
IsNear v w (Insert customer vehicle place) = ⊥
IsNear v w (Remove vehicle place) = ⊥
IsNear v w (Shift vehicle place n to at) = (vehicle ≡ v) × (to ≡ w) × (n ≤ 3)
IsNear v w (Swap vehicle place other at) = (vehicle ≡ v) × (other ≡ w) × (v ≡ w → place < at)
IsNear v w (Reverse vehicle first last) = (vehicle ≡ v) × (v ≡ w)
IsNear v w (Cross vehicle keep other keep_other) = (vehicle ≡ v) × (other ≡ w) × (v ≢ w)
