use Rattle.std.proofs.Common.{ℕ, Bool, sym, subst, filter}
use Rattle.std.specs.List.Sorted.{IsStrictlyIncreasing}
use Rattle.policy_core.specs.Seen.{state_of}
use Rattle.policy_core.specs.State.{numbers_of}
use Rattle.policy_core.proofs.NumberLaws.{rise-increasing, rise-filter}
use Rattle.policy_core.proofs.policy.Policy.sessions_of.Goals as goal
use Rattle.std.specs.Prelude.{bytes_eq}
use Rattle.policy_core.specs.declared.session.Session.{Session}

pub returns-clause-ascending : goal.returns-clause-ascending
returns-clause-ascending c =
    let p = state_of c.self.inside in
    let keep : (ℕ × Session) → Bool = λ e. bytes_eq e.1.user c.args.user in
    subst IsStrictlyIncreasing (sym c.in_ok-numbers.ensures) (rise-increasing 0 p.last (numbers_of (filter keep p.sessions)) (rise-filter 0 p.last keep p.sessions c.self.invariant.numbers))
