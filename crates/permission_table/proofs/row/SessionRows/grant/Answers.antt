use Rattle.std.proofs.Common.{◌≡◌, get_or, length, arith, sym, ap, ◌∙◌}
use Rattle.std.specs.Prelude.{slice_set, bit_or}
use Rattle.std.proofs.lemmas.List.{get_or_read_under}
use Rattle.role_hierarchy.specs.Roles.{has}
use Rattle.permission_core.specs.declared.objects.TheConstants.{OPERATIONS}
use Rattle.policy_core.specs.Access.{row_of}
use Rattle.permission_table.specs.Bits.{SessionAccess, row_in}
use Rattle.permission_table.specs.Rights.{part_of, granted_to}
use Rattle.permission_table.proofs.RightsLaws.{granted_so, granted_not}
use Rattle.permission_table.proofs.row.SessionRows.grant.Goals as goal

pub returns-then-contains : goal.returns-then-contains
returns-then-contains c session =
    let p = c.args.policy.now in
    let v : SessionAccess = record { reach = c.self.inside.reach; rows = c.self.inside.rows.value } in
    let read : c.index-deref_mut-index.result ≡ row_in v c.args.operation =
    get_or_read_under c.deref_mut.result.now c.index.result OPERATIONS c.index-deref_mut-index.result 0 c.index-deref_mut-index.is (omega (arith, c.index.ensures.small)) (sym (ap length c.deref_mut.ensures.value ∙ c.self.invariant))
    ∙ (λ i. get_or (c.deref_mut.ensures.value i) (c.index.ensures.value i) 0) in
    let more : c.add.new.self ≡ bit_or (row_in v c.args.operation) (part_of c.args.words.0 c.args.words.1 (row_of p c.args.role c.args.operation)) = c.add.ensures ∙ ap (λ r. bit_or r (part_of c.args.words.0 c.args.words.1 (row_of p c.args.role c.args.operation))) (sym c.index-deref_mut-index.is ∙ read) in
    (λ i. record { reach = c.self.inside.reach; rows = slice_set (c.deref_mut.ensures.value i) (c.index.ensures.value i) (more i) })
    ∙ granted_so p c.args.role c.args.operation c.args.words session v (sym c.contains.ensures ∙ c.if-contains.true)
    ∙ ap (granted_to p c.args.role c.args.operation c.args.words session) c.self.view_is

pub returns-else-contains : goal.returns-else-contains
returns-else-contains c session =
    granted_not c.args.policy.now c.args.role c.args.operation c.args.words session c.args.self.now
    (ap (λ (a : SessionAccess). has a.reach c.args.role) (sym c.self.view_is) ∙ sym c.contains.ensures ∙ c.if-contains.false)
