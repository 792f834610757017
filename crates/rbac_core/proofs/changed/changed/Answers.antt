use Rattle.std.proofs.Common.{sym, subst}
use Rattle.policy_core.specs.declared.parts.Parts.{Parts}
use Rattle.policy_core.specs.Parts.{DifferIn}
use Rattle.rbac_core.specs.Step.{after}
use Rattle.rbac_core.proofs.ChangedLaws.{differs}
use Rattle.rbac_core.proofs.changed.changed.Goals as goal

pub returns-clause-differ : goal.returns-clause-differ
returns-clause-differ c p =
    let P : Parts → Type 0 = λ parts. DifferIn parts (after p c.args.command.now) p in
    subst P (sym c.parts_of.ensures) (differs p c.args.command.now)
