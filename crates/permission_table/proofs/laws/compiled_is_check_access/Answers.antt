use Rattle.std.proofs.Common.{sym, ◌∙◌}
use Rattle.permission_table.proofs.AccessLaws.{access_exists}
use Rattle.permission_table.proofs.laws.compiled_is_check_access.Goals as goal

pub returns : goal.returns
returns c t compiled session operation object =
    let exists = access_exists c.args.policy.now c.is_policy.ensures.order session operation object in
    let same = compiled.0 session operation object in
    ((λ h. exists.0 (sym same ∙ h)), (λ h. same ∙ exists.1 h))
