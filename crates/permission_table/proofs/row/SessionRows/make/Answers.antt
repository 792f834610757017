use Rattle.permission_table.specs.Rights.{all_made}
use Rattle.permission_table.proofs.row.SessionRows.make.Goals as goal

pub returns : goal.returns
unfolding all_made
returns c = λ i. record { reach = c.args.roles; rows = c.make_all.ensures i }
