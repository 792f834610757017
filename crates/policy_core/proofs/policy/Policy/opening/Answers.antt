use Rattle.std.proofs.Common.{ap₂, ◌∙◌}
use Rattle.policy_core.specs.Opening.{set_up}
use Rattle.policy_core.proofs.OpeningLaws.{opening_is}
use Rattle.policy_core.proofs.policy.Policy.opening.Goals as goal

pub returns-in-Ok : goal.returns-in-Ok
returns-in-Ok c = c.in-Ok.ensures ∙ ap₂ set_up c.in_ok-policy.ensures c.in-Some.ensures.value ∙ opening_is c.args.customers c.args.vehicles
