use Rattle.std.proofs.Common.{sym, ap, ◌∙◌}
use Rattle.std.specs.Prelude.{slice_set}
use Rattle.role_hierarchy.specs.Roles.{has}
use Rattle.permission_table.specs.Bits.{SessionAccess}
use Rattle.permission_table.specs.Rights.{revoked_from}
use Rattle.permission_table.proofs.RightsLaws.{revoked_so, revoked_not}
use Rattle.permission_table.proofs.row.SessionRows.revoke.Goals as goal

pub returns-then-contains : goal.returns-then-contains
returns-then-contains c session =
    let p = c.args.policy.now in
    let v : SessionAccess = record { reach = c.self.inside.reach; rows = c.self.inside.rows.value } in
    (λ i. record { reach = c.self.inside.reach; rows = slice_set (c.deref_mut.ensures.value i) (c.index.ensures.value i) (c.of.ensures i) })
    ∙ revoked_so p c.args.role c.args.operation session v (sym c.contains.ensures ∙ c.if-contains.true)
    ∙ ap (revoked_from p c.args.role c.args.operation session) c.self.view_is

pub returns-else-contains : goal.returns-else-contains
returns-else-contains c session =
    revoked_not c.args.policy.now c.args.role c.args.operation session c.args.self.now
    (ap (λ (a : SessionAccess). has a.reach c.args.role) (sym c.self.view_is) ∙ sym c.contains.ensures ∙ c.if-contains.false)
