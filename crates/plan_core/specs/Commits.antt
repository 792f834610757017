use Rattle.std.specs.Prelude.{◌≡◌, ℕ, ◌+◌, ◌-◌, ◌<◌, ◌≤◌, ◌⊎◌, nat_lt, if◌then◌else◌, List, [], ◌∷◌, length, map, slice_index_or, Contains}
use Rattle.plan_core.specs.Among.{is_among}
use Rattle.plan_core.specs.Plan.{Changes, PlanState, stamp_of}

-- The commits of a plan are a list of sets of vehicles: the k-th set, counted from 1, holds the vehicles that commit k changed.

-- commit k changed vehicle v
pub record IsChange (commits : List (List ℕ)) (k v : ℕ) : Type 0 where
  pub low : 1 ≤ k
  pub high : k ≤ length commits
  pub changed : Contains (slice_index_or commits (k - 1) []) v

-- no commit after the base-th changed vehicle v
abbrev pub IsCurrentAt : List (List ℕ) → ℕ → ℕ → Type 0
IsCurrentAt commits base v = (k : ℕ) → base < k → ¬ IsChange commits k v

-- n is the number of the last commit that changed vehicle v, or 0 where none did
pub record IsLastCommit (commits : List (List ℕ)) (v n : ℕ) : Type 0 where
  pub made : (n ≡ 0) ⊎ IsChange commits n v
  pub latest : IsCurrentAt commits n v

-- the number of the last commit that changed vehicle v, or 0 where none did
abbrev pub last_commit : ℕ → List (List ℕ) → ℕ
last_commit v [] = 0
last_commit v (changed ∷ rest) =
    if nat_lt 0 (last_commit v rest) then last_commit v rest + 1
    else if is_among v changed then 1
    else 0

-- the vehicles that some changes name
abbrev pub named_vehicles : Changes → List ℕ
named_vehicles changes = map (λ c. c.0) changes

-- the numbers that a plan keeps are those of a list of commits: its version is their count, and the stamp of each vehicle is the
-- number of the last commit that changed it
pub record AreStamps (commits : List (List ℕ)) (plan : PlanState) : Type 0 where
  pub version : plan.version ≡ length commits
  pub stamps : (v : ℕ) → 1 ≤ v → v ≤ length plan.stamps → stamp_of plan v ≡ last_commit v commits
