use Rattle.std.proofs.Common.{sym, subst}
use Rattle.policy_core.specs.declared.parts.Parts.{Parts}
use Rattle.policy_core.specs.Parts.{DifferIn}
use Rattle.rbac_core.specs.Step.{after}
use Rattle.rbac_core.proofs.ChangedLaws.{lacks}
use Rattle.rbac_core.proofs.changed.lacking.Goals as goal

pub returns : goal.returns
returns c p takes =
    let P : Parts → Type 0 = λ parts. DifferIn parts p (after p c.args.command.now) in
    subst P (sym c.parts_of.ensures) (lacks p c.args.command.now takes)
