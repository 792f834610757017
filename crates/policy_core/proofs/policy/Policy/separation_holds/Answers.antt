use Rattle.std.proofs.Common.{ℕ, List}
use Rattle.role_hierarchy.specs.Below.{closed}
use Rattle.policy_core.specs.declared.session.Session.{Session}
use Rattle.policy_core.specs.State.{PolicyState, counted}
use Rattle.policy_core.specs.HoldLaws.{holds_at}
use Rattle.policy_core.proofs.policy.Policy.separation_holds.Goals as goal

pub returns-clause-ssd : goal.returns-clause-ssd
returns-clause-ssd c user there =
    let p : PolicyState = c.args.self.now in
    let given : (List ℕ × ℕ) → ℕ = λ u. closed p.order u.1 in
    holds_at given p.users p.ssd c.is_policy.ensures.whole.ssd user there

pub returns-clause-dsd : goal.returns-clause-dsd
returns-clause-dsd c session there =
    let p : PolicyState = c.args.self.now in
    let given : (ℕ × Session) → ℕ = λ s. counted p.counting p.order s.1.active in
    holds_at given p.sessions p.dsd c.is_policy.ensures.whole.dsd session there
