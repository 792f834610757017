use Rattle.std.proofs.Common.{◌≡◌, ℕ, ◌≤◌, ◌<◌, false, ap, sym, ◌∙◌, arith, length}
use Rattle.role_hierarchy.specs.Roles.{has}
use Rattle.permission_table.specs.Reaching.{SessionsState, reach_at, is_marked}
use Rattle.permission_table.proofs.ReachLaws.{none_map, no_more_reach}
use Rattle.permission_table.proofs.sessions.Sessions.next_that_reaches.Goals as goal

pub returns-clause-none : goal.returns-clause-none
returns-clause-none c =
    none_map c.next.result ((q : ℕ) → c.args.from ≤ q → q < length c.self.inside.reaching → is_marked c.self.inside.reaching c.args.role q ≡ false)
    ((q : ℕ) → c.args.from ≤ q → has (reach_at c.args.self.now.entries q) c.args.role ≡ false)
    (λ none q low. ap (λ (s : SessionsState). has (reach_at s.entries q) c.args.role) (sym c.self.view_is) ∙ no_more_reach c.self.inside.reaching c.self.inside.rows.entries c.args.role c.args.from (omega arith) c.self.invariant none q low)
    c.next.ensures.none
