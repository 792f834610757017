use Rattle.permission_table.proofs.CompiledLaws.{none_compiled}
use Rattle.permission_table.proofs.tables.Tables.new.Goals as goal

pub returns-clause-compiled : goal.returns-clause-compiled
returns-clause-compiled c =
    let made = c.in_ok-new.field-0 in
    none_compiled (record { customers = c.args.customers; vehicles = c.args.vehicles; rows = made.entries; room = made.room }) c.in_ok-new.ensures
