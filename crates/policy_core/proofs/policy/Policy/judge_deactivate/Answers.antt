use Rattle.std.proofs.Common.{ap, ◌∙◌, refl}
use Rattle.policy_core.proofs.CommandLaws.{fewer_active, fewer_of, dropped_there}
use Rattle.policy_core.proofs.policy.Policy.judge_deactivate.Goals as goal

pub returns-clause-whole : goal.returns-clause-whole
returns-clause-whole c =
    let s = c.in-Some-session_of.session in
    fewer_active c.args.self.now c.args.self.now refl c.is_policy.ensures.whole c.is_policy.ensures.order c.args.number s c.of.result c.in-Some-session_of.ensures
    (fewer_of s.active c.in-Some.slot c.of.result.active (ap (λ n. n.active) c.of.ensures ∙ c.remove.ensures))

pub returns-clause-used : goal.returns-clause-used
returns-clause-used c =
    dropped_there c.args.self.now c.args.self.now refl c.is_policy.ensures.whole c.args.number c.in-Some-session_of.session c.in-Some.slot c.of.result.active c.in-Some-session_of.ensures (ap (λ n. n.active) c.of.ensures ∙ c.remove.ensures)
