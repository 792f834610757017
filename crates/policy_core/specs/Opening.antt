-- The policy that a board begins with.
use Rattle.std.specs.Prelude.{ℕ, List, [], ◌∷◌}
use Rattle.role_hierarchy.specs.Order.{no_order, with_slot}
use Rattle.permission_core.specs.declared.objects.Operation.TheVariants.{Admin}
use Rattle.permission_core.specs.declared.objects.ObjectRange.TheVariants.{Board}
use Rattle.permission_core.specs.Permissions.{no_rows, row_set}
use Rattle.policy_core.specs.declared.session.Counting.TheVariants.{Active}
use Rattle.policy_core.specs.State.{PolicyState}
use Rattle.policy_core.specs.Commands.{user_added, role_added, assigned, granted, opened}

-- a user and a role of that name, the user assigned to the role, which may `admin` the board, and a session of the user with it
abbrev pub set_up : PolicyState → List ℕ → PolicyState
set_up p root = opened (granted (assigned (role_added (user_added p root) root) root root) root Admin Board) root (root ∷ [])

-- the bytes of `root`
abbrev pub root_name : List ℕ
root_name = 114 ∷ 111 ∷ 111 ∷ 116 ∷ []

-- one user, one role at slot 0, one permission, one session of number 1, no set
abbrev pub opening : ℕ → ℕ → PolicyState
opening customers vehicles = record {
  customers = customers;
  vehicles = vehicles;
  users = (root_name, 1) ∷ [];
  roles = (root_name, 0) ∷ [];
  order = with_slot no_order 0;
  grants = row_set no_rows 0 Admin 1;
  ssd = [];
  dsd = [];
  counting = Active;
  sessions = (1, record { user = root_name; active = 1 }) ∷ [];
  last = 1;
}
