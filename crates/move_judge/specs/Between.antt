use Rattle.std.specs.Prelude.{◌≡◌, ◌≢◌, ℕ, ◌≤◌, ◌⊎◌, List, [], ◌∷◌, length, slice_get, Some, Contains}
use Rattle.plan_core.specs.declared.touch.Touch.{Touch}
use Rattle.move_core.specs.declared.moves.Move.{Move}
use Rattle.move_core.specs.Moves.{changes_by}
use Rattle.move_core.specs.Touched.{touched_by}
use Rattle.move_core.specs.Changed.{first_change}
use Rattle.move_core.specs.Rearranged.{IsRearranging}

-- A move between two vehicles: their new routes, the first places that change, and who goes over from each to the other.
pub record IsBetween (routes : List (List ℕ)) (mv : Move) (v w x y : ℕ) (over back r q : List ℕ) : Type 0 where
  pub apart : v ≢ w
  pub vehicle : (1 ≤ v) × (v ≤ length routes)
  pub other : (1 ≤ w) × (w ≤ length routes)
  pub changes : changes_by routes mv ≡ (v, r) ∷ (w, q) ∷ []
  pub first : first_change mv v ≡ x
  pub second : first_change mv w ≡ y
  pub over_touched : (c : ℕ) → Contains over c → (k : ℕ) × ((t : Touch) × (slice_get (touched_by routes mv) k ≡ Some t) × (t.customer ≡ c))
  pub back_touched : (c : ℕ) → Contains back c → (k : ℕ) × ((t : Touch) × (slice_get (touched_by routes mv) k ≡ Some t) × (t.customer ≡ c))
  pub touched : (k : ℕ) (t : Touch) → slice_get (touched_by routes mv) k ≡ Some t → Contains over t.customer ⊎ Contains back t.customer

-- A move of one vehicle that only rearranges its route: the new route, and the first place that changes.
pub record IsInside (routes : List (List ℕ)) (mv : Move) (v x : ℕ) (r : List ℕ) : Type 0 where
  pub vehicle : (1 ≤ v) × (v ≤ length routes)
  pub changes : changes_by routes mv ≡ (v, r) ∷ []
  pub first : first_change mv v ≡ x
  pub kind : IsRearranging mv
