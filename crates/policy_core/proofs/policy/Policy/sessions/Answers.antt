use Rattle.std.proofs.Common.{sym, subst}
use Rattle.std.specs.List.Sorted.{IsStrictlyIncreasing}
use Rattle.policy_core.specs.Seen.{state_of}
use Rattle.policy_core.specs.State.{numbers_of}
use Rattle.policy_core.proofs.NumberLaws.{rise-increasing}
use Rattle.policy_core.proofs.policy.Policy.sessions.Goals as goal

pub returns-clause-ascending : goal.returns-clause-ascending
returns-clause-ascending c =
    let p = state_of c.self.inside in
    subst IsStrictlyIncreasing (sym c.in_ok-numbers.ensures) (rise-increasing 0 p.last (numbers_of p.sessions) c.self.invariant.numbers)
