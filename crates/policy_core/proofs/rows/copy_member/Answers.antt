use Rattle.std.proofs.Common.{◌≡◌, ◌+◌, ◌*◌, sym, ap, ◌∙◌, arith}
use Rattle.role_hierarchy.specs.Roles.{has}
use Rattle.permission_core.specs.Permissions.{row_place}
use Rattle.policy_core.proofs.MemberLaws.{row_skip, row_take}
use Rattle.policy_core.proofs.rows.copy_member.Goals as goal

pub returns-then-contains : goal.returns-then-contains
returns-then-contains c =
    let row = c.args.row.now in
    let n = c.args.number in
    c.grant.ensures ∙ row_take row n (n + 1) (omega arith) c.args.grants.now c.args.grants.now (row_place c.args.slot c.args.operation) c.requires.below
    (λ q low high. let at : q ≡ n = omega (arith, low, high) in ap (has row) at ∙ sym c.contains.ensures ∙ c.if-contains.true)

pub returns-else-contains : goal.returns-else-contains
returns-else-contains c =
    let row = c.args.row.now in
    let n = c.args.number in
    row_skip row n (n + 1) (omega arith) c.args.grants.now c.args.grants.now (row_place c.args.slot c.args.operation) c.requires.below
    (λ q low high. let at : q ≡ n = omega (arith, low, high) in ap (has row) at ∙ sym c.contains.ensures ∙ c.if-contains.false)
