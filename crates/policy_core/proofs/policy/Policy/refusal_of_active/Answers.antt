use Rattle.std.proofs.Common.{None, Some, ap, ◌∙◌}
use Rattle.separation_core.specs.Groups.{first_broken}
use Rattle.policy_core.specs.Seen.{state_of}
use Rattle.policy_core.proofs.CommandLaws.{session_judged}
use Rattle.policy_core.proofs.policy.Policy.refusal_of_active.Goals as goal

pub returns-in-Some : goal.returns-in-Some
returns-in-Some c = λ number user. session_judged (state_of c.self.inside) c.args.self.now c.self.view_is c.self.invariant number (record { user = user; active = c.args.active }) (Some c.in-Some.set) (c.in-Some.ensures.value ∙ ap (λ s. first_broken s c.self.inside.dsd) c.count.ensures)

pub returns-in-None : goal.returns-in-None
returns-in-None c = λ number user. session_judged (state_of c.self.inside) c.args.self.now c.self.view_is c.self.invariant number (record { user = user; active = c.args.active }) None (c.in-None.ensures.value ∙ ap (λ s. first_broken s c.self.inside.dsd) c.count.ensures)
