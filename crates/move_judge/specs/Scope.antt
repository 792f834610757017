-- A search may leave the dimensions out, and judge by them only what it finds.
use Rattle.std.specs.Prelude.{Bool, if◌then◌else◌, []}
use Rattle.dimension_core.specs.Setting.{Setting}

-- the setting as it is, or without dimensions
abbrev pub scope : Bool → Setting → Setting
scope bounded s = record {
  customers = s.customers;
  vehicles = s.vehicles;
  tables = s.tables;
  dimensions = if bounded then s.dimensions else [];
  cost = s.cost;
  max_events = s.max_events;
}
