-- Where no set is broken, fewer roles of each set than its number are among those of each user and session.
use Rattle.std.proofs.Common.{ℕ, List, refl}
use Rattle.role_hierarchy.specs.Below.{closed, IsOrder}
use Rattle.role_hierarchy.specs.BelowLaws.{has-closed}
use Rattle.policy_core.specs.declared.session.Session.{Session}
use Rattle.policy_core.specs.declared.session.Counting.{Counting}
use Rattle.policy_core.specs.declared.session.Counting.TheVariants.{Active, Inherited}
use Rattle.policy_core.specs.Authority.{AreCounted}
use Rattle.policy_core.specs.State.{PolicyState, counted}
use Rattle.policy_core.specs.HoldLaws.{holds_at}
use Rattle.board_rules.specs.Separate.{IsSeparated}
use Rattle.board_rules.proofs.Separation.{IsSeparate}

are_counted : (p : PolicyState) → IsOrder p.order → (counting : Counting) (active : ℕ) → AreCounted p counting active (counted counting p.order active)
are_counted p order Active active = refl
are_counted p order Inherited active = has-closed p.order order active

pub separated : (p : PolicyState) → IsOrder p.order → IsSeparate p → IsSeparated p
separated p order is = record {
  users = λ user assigned there. (
    closed p.order assigned,
    has-closed p.order order assigned,
    holds_at (λ (u : List ℕ × ℕ). closed p.order u.1) p.users p.ssd is.ssd (user, assigned) there,
  );
  sessions = λ number session there. (
    counted p.counting p.order session.active,
    are_counted p order p.counting session.active,
    holds_at (λ (e : ℕ × Session). counted p.counting p.order e.1.active) p.sessions p.dsd is.dsd (number, session) there,
  );
}
