-- Lanes: for each vehicle which route it is that stands there, and since which entry.
use Rattle.std.specs.Prelude.{ℕ, ◌-◌, nat_lt, if◌then◌else◌, List, [], ◌∷◌, map, slice_set, slice_index_or}
use Rattle.std.specs.List.{fold, range_with_len}
use Rattle.plan_core.specs.Plan.{route_at}
use Rattle.published_board.specs.declared.shown.Mark.{Mark}
use Rattle.published_board.specs.Reached.{Reached}
use Rattle.published_board.specs.Told.{told}

abbrev pub no_mark : Mark
no_mark = record { vehicle = 0; since = record { book = record { number = 0; log_name = 0; cells_name = 0 }; pages = [] }; entry = 0 }

-- the lane of a vehicle, vehicles counted from 1
abbrev pub lane_at : List Mark → ℕ → Mark
lane_at lanes v = slice_index_or lanes (v - 1) no_mark

-- the route that stands there
abbrev pub route_in : Mark → List ℕ
route_in m = route_at (told m.since).routes m.vehicle

-- the lanes once the vehicles of these new routes have them, since an entry of this number
abbrev pub lanes_after : {R : Type 0} → Reached → ℕ → List Mark → List (ℕ × R) → List Mark
lanes_after base n lanes routes = fold (λ xs c. slice_set xs (c.0 - 1) (record { vehicle = c.0; since = base; entry = n })) lanes routes

-- the number of the last change of some kind, once an entry of this number made these changes
abbrev pub since_after : {C : Type 0} → ℕ → ℕ → List C → ℕ
since_after old n [] = old
since_after old n (c ∷ cs) = n

-- a route, once that of a lane came in its place if it is newer than an entry
abbrev pub renewed_by : ℕ → List (List ℕ) → Mark → List (List ℕ)
renewed_by n routes m = if nat_lt n m.entry then slice_set routes (m.vehicle - 1) (route_in m) else routes

-- routes, once those of the lanes that are newer than an entry came in their places
abbrev pub renewed : ℕ → List Mark → List (List ℕ) → List (List ℕ)
renewed n lanes routes = fold (renewed_by n) routes lanes

-- the lanes of so many vehicles whose routes all stand since one entry
abbrev pub lanes_of : Reached → ℕ → ℕ → List Mark
lanes_of base n vehicles = map (λ v. record { vehicle = v; since = base; entry = n }) (range_with_len 1 vehicles)
