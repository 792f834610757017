use Rattle.std.proofs.Common.{◌≡◌, false, sym, subst}
use Rattle.std.specs.Prelude.{nat_eq}
use Rattle.std.specs.List.{list_any}
use Rattle.policy_core.specs.State.{PolicyState}
use Rattle.policy_core.specs.Access.{has_access, reached_roles}
use Rattle.rbac_core.specs.Affected.{affected_sessions}
use Rattle.rbac_core.proofs.StayLaws.{stays, reach_stays}
use Rattle.rbac_core.proofs.effects.access_stays.Goals as goal

pub returns-clause-reach : goal.returns-clause-reach
returns-clause-reach c session none =
    let p : PolicyState = c.args.old.now in
    let P : PolicyState → Type 0 = λ q. list_any (nat_eq session) (affected_sessions p c.args.command.now q) ≡ false → reached_roles q session ≡ reached_roles p session in
    subst P (sym c.requires) (reach_stays p session c.args.command.now) none

pub returns-clause-access : goal.returns-clause-access
returns-clause-access c session none operation object =
    let p : PolicyState = c.args.old.now in
    let P : PolicyState → Type 0 = λ q. list_any (nat_eq session) (affected_sessions p c.args.command.now q) ≡ false → has_access q session operation object ≡ has_access p session operation object in
    subst P (sym c.requires) (stays p session operation object c.args.command.now) none
