use Rattle.std.proofs.Common.{◌≤◌, length, sym, subst, arith}
use Rattle.board_core.specs.Kept.{CoreState}
use Rattle.board_core.proofs.body.Core.events.Goals as goal

pub returns-clause-few : goal.returns-clause-few
returns-clause-few c s kept =
    let few = subst (λ (x : CoreState). length x.journal ≤ s.max_events) (sym c.self.view_is) kept.few in
    omega (arith, few)
