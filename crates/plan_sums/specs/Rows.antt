-- Rows of a listing.
use Rattle.std.specs.Prelude.{◌≡◌, ℕ, ◌+◌, ◌-◌, ◌<◌, ◌≤◌, Bool, nat_lt, nat_le, ◌==◌, ◌&&◌, ◌||◌, not, true, false, List, length, take, slice_index_or}
use Rattle.std.specs.List.{list_any}
use Rattle.limits.specs.declared.TheConstants.{MOST_CUSTOMERS}
use Rattle.plan_sums.specs.declared.row.Row.{Row}
use Rattle.plan_sums.specs.Places.{Places}

-- a row of no customer
abbrev pub no_row : Row
no_row = record { vehicle = 0; place = 0; customer = 0; load = 0; early = 0 }

-- the row at a place of a listing, from 0
abbrev pub row_at : List Row → ℕ → Row
row_at rows k = slice_index_or rows k no_row

abbrev pub is_planned : Row → Bool
is_planned row = nat_lt 0 row.vehicle

-- the numbers of a row are those of the instance: its vehicle, its customer, and a place that a route may have
pub record IsRow (p : Places) (row : Row) : Type 0 where
  pub vehicle : row.vehicle ≤ p.vehicles
  pub some_customer : 0 < row.customer
  pub few_customers : row.customer < length p.nodes
  pub place : row.place < length p.nodes

-- rows of the instance, at most one for each customer
pub record AreRows (p : Places) (rows : List Row) : Type 0 where
  pub few : length rows ≤ MOST_CUSTOMERS
  pub each : (k : ℕ) → k < length rows → IsRow p (row_at rows k)

-- ---- which row may come next in a listing

abbrev pub is_row : Places → Row → Bool
is_row p row = nat_le row.vehicle p.vehicles && (nat_lt 0 row.customer && (nat_lt row.customer (length p.nodes) && nat_lt row.place (length p.nodes)))

-- Planned rows come by vehicle and then by place; those that are not planned come behind all others.
abbrev pub goes_after : Row → Row → Bool
goes_after a b = (b.vehicle == 0) || (nat_lt 0 a.vehicle && (nat_lt a.vehicle b.vehicle || ((a.vehicle == b.vehicle) && nat_lt a.place b.place)))

-- whether a row may come behind some rows
abbrev pub is_in_order : List Row → Row → Bool
is_in_order before row = (length before == 0) || goes_after (row_at before (length before - 1)) row

-- whether no row has the customer
abbrev pub is_new : List Row → ℕ → Bool
is_new before customer = not (list_any (λ row. row.customer == customer) before)

-- whether a row may come behind some rows of a listing of the instance: it is a row of it, in order, of a customer who had none, and there are not
-- more rows than customers
abbrev pub fits : Places → List Row → Row → Bool
fits p before row = nat_lt (length before + 1) (length p.nodes) && (is_row p row && (is_in_order before row && is_new before row.customer))

-- each row may come behind those before it
abbrev pub AllFit : Places → List Row → Type 0
AllFit p rows = (k : ℕ) → k < length rows → fits p (take k rows) (row_at rows k) ≡ true

-- which customers some rows have, by number
pub record AreSeen (p : Places) (rows : List Row) (seen : List Bool) : Type 0 where
  pub sized : length seen ≡ length p.nodes
  pub marks : (c : ℕ) → c < length p.nodes → slice_index_or seen c false ≡ list_any (λ row. row.customer == c) rows
