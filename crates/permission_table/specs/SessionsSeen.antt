-- What contracts see of the fields of sessions.
use Rattle.std.specs.Prelude.{◌-◌, min, length}
use Rattle.indexmap.specs.IndexMap.{spare}
use Rattle.permission_table.specs.Reaching.{SessionsState}
use Rattle.permission_table.specs.declared.sessions.Sessions.TheInside.{Inside}

abbrev pub sessions_of : Inside → SessionsState
sessions_of a = record { entries = a.rows.entries; room = min (spare a.rows) (length a.reaching - length a.rows.entries) }
