-- Separation of duty over a whole policy (ANSI INCITS 359-2004, 6.3 and 6.4), by chains of immediate pairs.
use Rattle.std.specs.Prelude.{ℕ, List, Contains}
use Rattle.separation_core.specs.Groups.{HoldsFor}
use Rattle.policy_core.specs.declared.session.Session.{Session}
use Rattle.policy_core.specs.Authority.{AreBelow, AreCounted}
use Rattle.policy_core.specs.State.{PolicyState}

-- Of each SSD set fewer roles than its number are among those to which a role of a user is senior, and of each DSD set fewer than its number
-- among those that are counted for a session: the active ones, or all to which one of them is senior.
pub record IsSeparated (p : PolicyState) : Type 0 where
  pub users : (user : List ℕ) (assigned : ℕ) → Contains p.users (user, assigned) → (given : ℕ) × AreBelow p assigned given × HoldsFor given p.ssd
  pub sessions : (number : ℕ) (session : Session) → Contains p.sessions (number, session)
      → (given : ℕ) × AreCounted p p.counting session.active given × HoldsFor given p.dsd
