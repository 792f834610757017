use Rattle.std.proofs.Common.{◌≡◌, Bool, true, sym, subst, ◌↔◌}
use Rattle.policy_core.specs.Access.{CheckAccess}
use Rattle.policy_core.specs.AccessLaws.{access_by_test}
use Rattle.policy_core.proofs.policy.Policy.check_plain.Goals as goal

pub returns-clause-exists : goal.returns-clause-exists
returns-clause-exists c =
    let p = c.args.self.now in
    let P : Bool → Type 0 = λ t. (t ≡ true) ↔ CheckAccess p c.args.session c.args.operation c.args.object in
    subst P (sym c.has_access.ensures) (access_by_test p c.is_policy.ensures.order c.args.session c.args.operation c.args.object)
