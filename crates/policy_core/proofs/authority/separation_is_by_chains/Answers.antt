use Rattle.std.proofs.Common.{ℕ, sym, subst}
use Rattle.separation_core.specs.Groups.{HoldsFor}
use Rattle.policy_core.specs.State.{PolicyState}
use Rattle.policy_core.proofs.AuthorityLaws.{one_below, one_counted}
use Rattle.policy_core.proofs.authority.separation_is_by_chains.Goals as goal

pub returns-clause-ssd : goal.returns-clause-ssd
returns-clause-ssd c user there given each =
    let p : PolicyState = c.args.policy.now in
    subst (λ (set : ℕ). HoldsFor set p.ssd) (sym (one_below p c.is_policy.ensures.order user.1 given each)) (c.separation_holds.ensures.ssd user there)

pub returns-clause-dsd : goal.returns-clause-dsd
returns-clause-dsd c session there given each =
    let p : PolicyState = c.args.policy.now in
    subst (λ (set : ℕ). HoldsFor set p.dsd) (sym (one_counted p c.is_policy.ensures.order p.counting session.1.active given each)) (c.separation_holds.ensures.dsd session there)
