-- What one more pair in the order adds for users and sessions.
use Rattle.std.specs.Prelude.{◌≡◌, ◌<◌, ◌↔◌, true, ℕ, if◌then◌else◌, List, [], ◌∷◌, ◌++◌, bit_or}
use Rattle.limits.specs.declared.TheConstants.{MOST_ROLES}
use Rattle.role_hierarchy.specs.Roles.{has}
use Rattle.role_hierarchy.specs.Order.{Order, IsSenior, stands}
use Rattle.role_hierarchy.specs.Below.{closed, juniors_of}
use Rattle.policy_core.specs.declared.session.Session.{Session}

-- the set holds the roles that are senior to the role
abbrev pub AreSeniors : Order → ℕ → ℕ → Type 0
AreSeniors order s seniors = (a : ℕ) → (has seniors a ≡ true) ↔ ((a < MOST_ROLES) × IsSenior (stands order) a s)

-- what is below the roles with one more pair, where the pair's senior is below them; otherwise nothing is added
abbrev pub wider : Order → ℕ → ℕ → ℕ → List ℕ
wider order s j roles = if has (closed order roles) s then bit_or (closed order roles) (juniors_of order j) ∷ [] else []

-- the same for each entry's roles
abbrev pub all_wider : {E : Type 0} → Order → ℕ → ℕ → (E → ℕ) → List E → List ℕ
all_wider order s j roles_in [] = []
all_wider order s j roles_in (e ∷ es) = wider order s j (roles_in e) ++ all_wider order s j roles_in es

-- the roles of a user, and those of a session
abbrev pub held_in : List ℕ × ℕ → ℕ
held_in u = u.1

abbrev pub active_in : ℕ × Session → ℕ
active_in s = s.1.active
