-- The setting that is made of an instance's callbacks and dimensions is the standard one.
use Rattle.std.proofs.Common.{◌≡◌, ◌∙◌, ℕ, ◌-◌, true, false, List, [], ◌∷◌, ◌++◌, length, refl, ap}
use Rattle.callback_store.specs.Tables.{Table, node_values, pair_values}
use Rattle.dimension_core.specs.Cumuls.{Bounds}
use Rattle.dimension_core.specs.Setting.{Setting}
use Rattle.travel_table.specs.Travel.{travel_at}
use Rattle.program_parts.specs.Network.{Sites, demand_at, time_between}
use Rattle.program_parts.specs.Pair.{load_bounds, time_bounds}
use Rattle.program_parts.specs.Standard.{standard_setting}

pub standard_by : (s : Sites) (set : Setting) (size vehicles cost demand way : ℕ) (ts0 ts1 ts2 ts3 : List Table) (a b c : Table) (pair : List Bounds)
    → set ≡ record { customers = size - 1; vehicles = vehicles; tables = ts3; dimensions = pair; cost = cost; max_events = 1000000 }
    → size ≡ length s.nodes → vehicles ≡ s.vehicles
    → ts0 ≡ [] → ts1 ≡ ts0 ++ a ∷ [] → ts2 ≡ ts1 ++ b ∷ [] → ts3 ≡ ts2 ++ c ∷ []
    → a ≡ record { size = length s.nodes; paired = false; entries = node_values (length s.nodes) (demand_at s) }
    → b ≡ record { size = length s.nodes; paired = true; entries = pair_values (length s.nodes) (time_between s) }
    → c ≡ record { size = length s.nodes; paired = true; entries = pair_values (length s.nodes) (travel_at s.travel) }
    → pair ≡ load_bounds s demand ∷ time_bounds s way ∷ [] → demand ≡ length ts0 → way ≡ length ts1 → cost ≡ length ts2
    → set ≡ standard_setting s
standard_by s set size vehicles cost demand way ts0 ts1 ts2 ts3 a b c pair whole n v t0 t1 t2 t3 ta tb tc d i j k =
    let u1 : ts1 ≡ a ∷ [] = t1 ∙ ap (λ (ts : List Table). ts ++ a ∷ []) t0 in
    let u2 : ts2 ≡ a ∷ b ∷ [] = t2 ∙ ap (λ (ts : List Table). ts ++ b ∷ []) u1 in
    let u3 : ts3 ≡ a ∷ b ∷ c ∷ [] = t3 ∙ ap (λ (ts : List Table). ts ++ c ∷ []) u2 in
    let first : demand ≡ 0 = i ∙ ap (λ (ts : List Table). length ts) t0 in
    let second : way ≡ 1 = j ∙ ap (λ (ts : List Table). length ts) u1 in
    let third : cost ≡ 2 = k ∙ ap (λ (ts : List Table). length ts) u2 in
    rw (whole, u3, d, first, second, third, ta, tb, tc, v, n) refl
