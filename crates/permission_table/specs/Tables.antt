-- Tables of permissions as data, and the rows that are to be put into them.
use Rattle.std.specs.Prelude.{ℕ, Bool, List, [], Option, nat_eq, unwrap_or}
use Rattle.std.specs.List.{list_any}
use Rattle.std.specs.Map.{lookup}
use Rattle.permission_core.specs.declared.objects.Operation.{Operation}
use Rattle.permission_core.specs.declared.objects.Object.{Object}
use Rattle.permission_table.specs.Bits.{SessionAccess, allowed_by}
use Rattle.permission_table.specs.Reaching.{rows_in}

-- For each session that has rows what is compiled for it, and how many more sessions there is room for.
pub record TablesState : Type 0 where
  pub customers : ℕ
  pub vehicles : ℕ
  pub rows : List (ℕ × SessionAccess)
  pub room : ℕ

-- The tables for which rows were made, and what becomes of each session's rows: others, or none.
pub record RowsState : Type 0 where
  pub of : TablesState
  pub changes : List (ℕ × Option SessionAccess)

-- no session has rows
abbrev pub no_rows : ℕ → ℕ → ℕ → TablesState
no_rows customers vehicles room = record { customers = customers; vehicles = vehicles; rows = []; room = room }

-- what is compiled for a session
abbrev pub rows_of : TablesState → ℕ → Option SessionAccess
rows_of t session = lookup (nat_eq session) t.rows

-- what is compiled for the session whose rows are at a place
abbrev pub rows_at : TablesState → Option ℕ → Option SessionAccess
rows_at t place = rows_in t.rows place

-- what the tables say of a session, an operation and an object
abbrev pub allows : TablesState → ℕ → Operation → Object → Bool
allows t session operation object = allowed_by t.customers t.vehicles (rows_of t session) operation object

-- what is compiled for a session once these rows are in place
abbrev pub rows_after : RowsState → ℕ → Option SessionAccess
rows_after rows session = unwrap_or (lookup (nat_eq session) rows.changes) (rows_of rows.of session)

-- what the tables will say once these rows are in place
abbrev pub will_allow : RowsState → ℕ → Operation → Object → Bool
will_allow rows session operation object = allowed_by rows.of.customers rows.of.vehicles (rows_after rows session) operation object

-- the session is one of these
abbrev pub is_among : List ℕ → ℕ → Bool
is_among sessions session = list_any (nat_eq session) sessions
