-- How the draft of a vehicle's new route joins others.
use Rattle.std.specs.Prelude.{◌≡◌, ℕ, ◌≤◌, List, [], ◌∷◌, ◌++◌, length, take}
use Rattle.plan_core.specs.Drafts.{DraftState}

-- one more draft follows the others: that of the vehicle, by which its route becomes a new one
abbrev pub AddsDraft : ℕ → List ℕ → List ℕ → List DraftState → List DraftState → Type 0
AddsDraft vehicle route new old drafts =
    (d : DraftState) × (drafts ≡ old ++ (d ∷ [])) × (d.vehicle ≡ vehicle) × (d.kept ≤ length route) × (take d.kept route ++ d.rest ≡ new)
