-- What the commands of the opening make.
use Rattle.std.proofs.Common.{◌≡◌, ℕ, refl}
use Rattle.role_hierarchy.specs.Roles.{first_free, with_role, has}
use Rattle.permission_core.specs.Objects.{with_range}
use Rattle.policy_core.specs.State.{no_policy}
use Rattle.policy_core.specs.Opening.{opening, set_up, root_name}

pub opening_is : (customers vehicles : ℕ) → set_up (no_policy customers vehicles) root_name ≡ opening customers vehicles
unfolding first_free with_role with_range has
opening_is customers vehicles = refl
