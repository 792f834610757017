-- What contracts see of the fields of tables.
use Rattle.permission_table.specs.Tables.{TablesState}
use Rattle.permission_table.specs.declared.tables.Tables.TheInside.{Inside}

abbrev pub state_of : Inside → TablesState
state_of a = record { customers = a.customers; vehicles = a.vehicles; rows = a.rows.entries; room = a.rows.room }
