use Rattle.std.proofs.Common.{◌∙◌}
use Rattle.policy_core.specs.Seen.{state_of}
use Rattle.policy_core.proofs.SetLaws.{some_user, some_session}
use Rattle.policy_core.proofs.policy.Policy.is_breaking.Goals as goal

pub returns-in-Static : goal.returns-in-Static
returns-in-Static c = c.breaks_some.ensures ∙ some_user (state_of c.self.inside) c.args.self.now c.self.view_is c.args.limit c.args.kind c.in-Static.is

pub returns-in-Dynamic : goal.returns-in-Dynamic
returns-in-Dynamic c = c.breaks_active.ensures ∙ some_session (state_of c.self.inside) c.args.self.now c.self.view_is c.args.limit c.args.kind c.in-Dynamic.is
