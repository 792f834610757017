use Rattle.permission_table.proofs.CompiledLaws.{rows_at, rows_none}
use Rattle.permission_table.proofs.tables.rows_for.Goals as goal

pub returns-in_ok-of-in-Some : goal.returns-in_ok-of-in-Some
returns-in_ok-of-in-Some c =
    rows_at c.args.policy.now c.args.session c.in-Some.roles c.in_ok-of-in-Some.field-0 c.in-Some.ensures c.is_small.ensures c.in_ok-of-in-Some.ensures

pub returns-in-None : goal.returns-in-None
returns-in-None c = rows_none c.args.policy.now c.args.session c.in-None.ensures
