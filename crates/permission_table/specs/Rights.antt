-- What is compiled for a session after a change of rights.
use Rattle.std.specs.Prelude.{ℕ, zero, suc, ◌-◌, ◌*◌, ◌/◌, Bool, nat_le, nat_lt, ◌&&◌, ◌==◌, if◌then◌else◌, List, [], ◌∷◌, map, slice_set, bit_or, bit_and}
use Rattle.std.specs.Option.{option_map_or}
use Rattle.limits.specs.declared.TheConstants.{MOST_ROLES}
use Rattle.role_hierarchy.specs.Roles.{has}
use Rattle.permission_core.specs.declared.objects.Operation.{Operation}
use Rattle.permission_core.specs.declared.objects.TheConstants.Operation.{ALL}
use Rattle.permission_core.specs.Objects.{index_of, with_range}
use Rattle.policy_core.specs.State.{PolicyState}
use Rattle.policy_core.specs.Access.{row_of, reached_roles}
use Rattle.permission_table.specs.Bits.{SessionAccess, row_in}

-- the objects to which one of the roles below n may do the operation
unfoldable pub rows_joined : PolicyState → ℕ → Operation → ℕ → ℕ
rows_joined p roles operation zero = 0
rows_joined p roles operation (suc n) =
    if has roles n then bit_or (rows_joined p roles operation n) (row_of p n operation) else rows_joined p roles operation n

-- the objects to which one of the roles may do it
unfoldable pub row_made : PolicyState → ℕ → Operation → ℕ
row_made p roles operation = rows_joined p roles operation MOST_ROLES

-- the object is in one of the words from low on, up to but not including high
abbrev pub is_in_words : ℕ → ℕ → ℕ → Bool
is_in_words low high number = nat_le low (number / 64) && nat_lt (number / 64) high

-- the objects of a row that are in these words
abbrev pub part_of : ℕ → ℕ → ℕ → ℕ
part_of low high row = bit_and row (with_range 0 (64 * low) (64 * (high - low)))

-- another row for the operation
abbrev pub with_row_in : SessionAccess → Operation → ℕ → SessionAccess
with_row_in access operation row = record access { rows = slice_set access.rows (index_of operation) row }

-- a session that reaches the role gains what the role may do of these words
unfoldable pub granted_to : PolicyState → ℕ → Operation → ℕ × ℕ → ℕ → SessionAccess → SessionAccess
granted_to p role operation words session access =
    if has access.reach role then with_row_in access operation (bit_or (row_in access operation) (part_of words.0 words.1 (row_of p role operation))) else access

-- a session that reaches the role has left what the roles that it reaches may do
unfoldable pub revoked_from : PolicyState → ℕ → Operation → ℕ → SessionAccess → SessionAccess
revoked_from p role operation session access =
    if has access.reach role then with_row_in access operation (row_made p access.reach operation) else access

-- for each operation the objects to which one of the roles may do it
abbrev pub rows_made : PolicyState → ℕ → List ℕ
rows_made p roles = map (row_made p roles) ALL

-- what is compiled for a session that reaches these roles
unfoldable pub all_made : PolicyState → ℕ → SessionAccess
all_made p roles = record { reach = roles; rows = rows_made p roles }

-- a session gets new rows where it reaches other roles than before
unfoldable pub followed : PolicyState → ℕ → SessionAccess → SessionAccess
followed p roles access = if roles == access.reach then access else all_made p roles

unfoldable pub refreshed : PolicyState → ℕ → SessionAccess → SessionAccess
refreshed p session access = option_map_or (λ roles. followed p roles access) (reached_roles p session) access

-- the same where only those sessions may reach others that reach this role
unfoldable pub refreshed_above : PolicyState → ℕ → ℕ → SessionAccess → SessionAccess
refreshed_above p role session access = if has access.reach role then refreshed p session access else access

-- a session gets new rows, whatever it reaches
unfoldable pub made_anew : PolicyState → ℕ → SessionAccess → SessionAccess
made_anew p session access = option_map_or (all_made p) (reached_roles p session) access

-- after a role is gone, a session that reached it gets new rows, and any other where it reaches other roles than before
unfoldable pub refreshed_without : PolicyState → ℕ → ℕ → SessionAccess → SessionAccess
refreshed_without p role session access = if has access.reach role then made_anew p session access else refreshed p session access

-- the entries with a change of the value at a place, which may go by its key
abbrev pub changed_at : {V : Type 0} → (ℕ → V → V) → List (ℕ × V) → ℕ → List (ℕ × V)
changed_at f [] place = []
changed_at f (e ∷ es) zero = (e.0, f e.0 e.1) ∷ es
changed_at f (e ∷ es) (suc place) = e ∷ changed_at f es place

-- the entries with each value changed
abbrev pub all_changed : {V : Type 0} → (ℕ → V → V) → List (ℕ × V) → List (ℕ × V)
all_changed f es = map (λ e. (e.0, f e.0 e.1)) es
