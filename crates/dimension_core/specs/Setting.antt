use Rattle.std.specs.Prelude.{◌≡◌, ℕ, ◌+◌, ◌<◌, ◌≤◌, Bool, false, not, ◌==◌, ◌&&◌, ◌||◌, nat_lt, nat_le, if◌then◌else◌, List, [], length, slice_index_or, Option, Some, None}
use Rattle.std.specs.List.{list_all}
use Rattle.limits.specs.declared.TheConstants.{MOST_CUSTOMERS, MOST_DIMENSIONS, MOST_EVENTS, MOST_VEHICLES}
use Rattle.callback_store.specs.Tables.{Table, nodes_of}
use Rattle.dimension_core.specs.Cumuls.{Bounds}
use Rattle.dimension_core.specs.declared.fault.SetupFault.{SetupFault}
use Rattle.dimension_core.specs.declared.fault.SetupFault.TheVariants.{Size, NoTransit, Many, Limit}

-- What a board is opened with: its numbers, the tables of its callbacks, and its dimensions.
pub record Setting : Type 0 where
  pub customers : ℕ
  pub vehicles : ℕ
  pub tables : List Table
  pub dimensions : List Bounds
  pub cost : ℕ
  pub max_events : ℕ

-- whether a dimension is over this many customers and vehicles
abbrev pub is_over : ℕ → ℕ → Bounds → Bool
is_over customers vehicles d = (length d.ranges == customers + 1) && (length d.caps == vehicles)

-- whether the numbers are in range, and those of the dimensions and of the tables
abbrev pub is_setting_sized : Setting → Bool
is_setting_sized s =
    nat_le 1 s.customers && nat_le s.customers MOST_CUSTOMERS && nat_le 1 s.vehicles && nat_le s.vehicles MOST_VEHICLES
    && (length s.tables == 0 || nodes_of s.tables == s.customers + 1)
    && list_all (is_over s.customers s.vehicles) s.dimensions

-- whether the callbacks of the cost and of the dimensions are registered
abbrev pub is_setting_registered : Setting → Bool
is_setting_registered s = nat_lt s.cost (length s.tables) && list_all (λ d. nat_lt d.id (length s.tables)) s.dimensions

-- the first reason to refuse a setup
abbrev pub setup_refusal : Setting → Option SetupFault
setup_refusal s =
    if not (is_setting_sized s) then Some Size
    else if not (is_setting_registered s) then Some NoTransit
    else if nat_lt MOST_DIMENSIONS (length s.dimensions) then Some Many
    else if not (nat_le 1 s.max_events && nat_le s.max_events MOST_EVENTS) then Some Limit
    else None

-- no dimension, for a place at which there is none
abbrev pub no_bounds : Bounds
no_bounds = record { id = 0; slack_max = 0; caps = []; fixed = false; ranges = [] }

-- the dimension at a place, from 0 on
abbrev pub dimension_at : Setting → ℕ → Bounds
dimension_at s k = slice_index_or s.dimensions k no_bounds

-- what is known of every setup
pub record IsSetting (s : Setting) : Type 0 where
  pub some_customer : 1 ≤ s.customers
  pub few_customers : s.customers ≤ MOST_CUSTOMERS
  pub some_vehicle : 1 ≤ s.vehicles
  pub few_vehicles : s.vehicles ≤ MOST_VEHICLES
  pub tables : nodes_of s.tables ≡ s.customers + 1
  pub cost : s.cost < length s.tables
  pub ids : (k : ℕ) → k < length s.dimensions → (dimension_at s k).id < length s.tables
  pub ranges : (k : ℕ) → k < length s.dimensions → length (dimension_at s k).ranges ≡ s.customers + 1
  pub caps : (k : ℕ) → k < length s.dimensions → length (dimension_at s k).caps ≡ s.vehicles
  pub few : length s.dimensions ≤ MOST_DIMENSIONS
  pub some_event : 1 ≤ s.max_events
  pub few_events : s.max_events ≤ MOST_EVENTS
