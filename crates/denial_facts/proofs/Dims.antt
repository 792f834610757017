-- What was found in a dimension that was read, said of that of the setting.
use Rattle.std.proofs.Common.{◌≡◌, ℕ, ◌+◌, ◌-◌, ◌<◌, ◌≤◌, arith, sym, subst, ap, ap₂, ◌∙◌, List, [], ◌∷◌, length}
use Rattle.std.specs.Prelude.{All, slice_index, slice_index_or}
use Rattle.std.proofs.lemmas.List.{get_or_default, length-append}
use Rattle.callback_store.specs.Tables.{Table}
use Rattle.dimension_core.specs.Cumuls.{Bounds, IsInBounds, IsServed, cap_of, table_of}
use Rattle.dimension_core.specs.Feasible.{FitsIn}
use Rattle.dimension_core.specs.Setting.{IsSetting, Setting, dimension_at, no_bounds}
use Rattle.denial_facts.specs.declared.miss.Miss.{Miss}
use Rattle.denial_facts.specs.Misses.{IsFirstMiss, IsMiss, stops_of}
use Rattle.denial_facts.specs.Totals.{total_of}

-- the dimension that was read at a place
dim_at : (s : Setting) (ds : List Bounds) (d : Bounds) (k : ℕ) → ds ≡ s.dimensions → k < length s.dimensions → d ≡ slice_index_or ds k d → d ≡ dimension_at s k
dim_at s ds d k ed h e =
    let within : k < length ds = subst (λ (xs : List Bounds). k < length xs) (sym ed) h in
    e ∙ get_or_default ds k d no_bounds within ∙ ap (λ (xs : List Bounds). slice_index_or xs k no_bounds) ed

pub fits_by : (s : Setting) (ts : List Table) (ds : List Bounds) (d : Bounds) (k v : ℕ) (route : List ℕ) → ts ≡ s.tables → ds ≡ s.dimensions → k < length s.dimensions
    → d ≡ slice_index_or ds k d → IsInBounds (table_of ts d) d v route → FitsIn s k v route
fits_by s ts ds d k v route et ed h e fits =
    let there = subst (λ (xs : List Table). IsInBounds (table_of xs d) d v route) et fits in
    subst (λ (b : Bounds). IsInBounds (table_of s.tables b) b v route) (dim_at s ds d k ed h e) there

pub miss_by : (s : Setting) (ts : List Table) (ds : List Bounds) (d : Bounds) (k v : ℕ) (route : List ℕ) (m : Miss) → ts ≡ s.tables → ds ≡ s.dimensions → k < length s.dimensions
    → d ≡ slice_index_or ds k d → IsMiss (table_of ts d) d v route m → IsMiss (table_of s.tables (dimension_at s k)) (dimension_at s k) v route m
miss_by s ts ds d k v route m et ed h e miss =
    let there = subst (λ (xs : List Table). IsMiss (table_of xs d) d v route m) et miss in
    subst (λ (b : Bounds). IsMiss (table_of s.tables b) b v route m) (dim_at s ds d k ed h e) there

-- the number of a stop is one of the route's places, or that of the depot
pub stop_within : (t : Table) (d : Bounds) (v : ℕ) (route : List ℕ) (stop least most : ℕ) → IsFirstMiss t d v (stops_of route) stop least most → stop ≤ length route
stop_within t d v route stop least most miss = let within = miss.within in omega (arith, within, length-append route (0 ∷ []))

-- a stop by its place
pub late_by : (t : Table) (d : Bounds) (v : ℕ) (route : List ℕ) (stop node least most : ℕ) → IsFirstMiss t d v (stops_of route) stop least most → node ≡ slice_index (stops_of route) stop
    → (1 ≤ stop + 1) × (node ≡ slice_index (stops_of route) (stop + 1 - 1)) × IsFirstMiss t d v (stops_of route) (stop + 1 - 1) least most
late_by t d v route stop node least most miss here =
    let e : stop + 1 - 1 ≡ stop = omega arith in
    rw e (omega arith, here, miss)

-- a dimension that was read is served, and knows the vehicle and the customers of a route
pub record IsRead (ts : List Table) (d : Bounds) (v : ℕ) (route : List ℕ) : Type 0 where
  pub served : IsServed ts d
  pub known : All (λ (node : ℕ). node < length d.ranges) route
  pub high : v ≤ length d.caps

pub read_dim : (s : Setting) (ts : List Table) (ds : List Bounds) (d : Bounds) (k v : ℕ) (route : List ℕ) → IsSetting s → ((i : ℕ) → i < length s.dimensions → IsServed s.tables (dimension_at s i)) → ts ≡ s.tables → ds ≡ s.dimensions
    → k < length s.dimensions → d ≡ slice_index_or ds k d → v ≤ s.vehicles → All (λ (c : ℕ). c ≤ s.customers) route → IsRead ts d v route
read_dim s ts ds d k v route sound served et ed h e high known =
    let at = dim_at s ds d k ed h e in
    let sized : length d.ranges ≡ s.customers + 1 = ap (λ (b : Bounds). length b.ranges) at ∙ sound.ranges k h in
    let capped : length d.caps ≡ s.vehicles = ap (λ (b : Bounds). length b.caps) at ∙ sound.caps k h in
    record {
      served = subst (λ (xs : List Table). IsServed xs d) (sym et) (subst (λ (b : Bounds). IsServed s.tables b) (sym at) (served k h));
      known = λ i z within. let small = known i z within in omega (arith, sized, small);
      high = omega (arith, capped, high);
    }

-- what a route takes in all of the first dimension
pub load_by : (s : Setting) (ts : List Table) (ds : List Bounds) (d : Bounds) (k v : ℕ) (route : List ℕ) (total most : ℕ) → ts ≡ s.tables → ds ≡ s.dimensions → k < length s.dimensions → d ≡ slice_index_or ds k d
    → k ≡ 0 → total ≡ total_of (table_of ts d) route → most ≡ cap_of d v → (total ≡ total_of (table_of s.tables (dimension_at s 0)) route) × (most ≡ cap_of (dimension_at s 0) v)
load_by s ts ds d k v route total most et ed h e zero sum cap =
    let at : d ≡ dimension_at s 0 = dim_at s ds d k ed h e ∙ ap (dimension_at s) zero in
    (sum ∙ ap₂ (λ (xs : List Table) (b : Bounds). total_of (table_of xs b) route) et at, cap ∙ ap (λ (b : Bounds). cap_of b v) at)
