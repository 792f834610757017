-- For each role the places of the sessions that reach it, as sets: 256 places are a block, and each block has a set for each of 256 roles.
use Rattle.std.specs.Prelude.{◌≡◌, ℕ, ◌+◌, ◌*◌, ◌/◌, ◌%◌, ◌<◌, ◌≤◌, Bool, List, Option, None, Some, length, map, slice_get, slice_index}
use Rattle.std.specs.Option.{option_map}
use Rattle.role_hierarchy.specs.Roles.{has}
use Rattle.permission_table.specs.Bits.{SessionAccess}

-- The rows of the sessions, each at a place, and how many more there is room for.
pub record SessionsState : Type 0 where
  pub entries : List (ℕ × SessionAccess)
  pub room : ℕ

-- the sets say that the session at the place reaches the role
unfoldable pub is_marked : List ℕ → ℕ → ℕ → Bool
is_marked sets role place = has (slice_index sets (256 * (place / 256) + role)) (place % 256)

-- the sets say of each place that these are the roles that are reached there
abbrev pub AreMarksOf : List ℕ → (ℕ → ℕ) → Type 0
AreMarksOf sets reach = (role place : ℕ) → role < 256 → place < length sets → is_marked sets role place ≡ has (reach place) role

-- what is compiled for the session whose rows are at a place
abbrev pub rows_in : List (ℕ × SessionAccess) → Option ℕ → Option SessionAccess
rows_in es None = None
rows_in es (Some i) = option_map (λ row. row.1) (slice_get es i)

-- the roles that the session at the place reaches, none where there is no session
abbrev pub reach_at : List (ℕ × SessionAccess) → ℕ → ℕ
reach_at es place = slice_index (map (λ e. e.1.reach) es) place

-- there are as many places as sets; the sessions have the first of them, and the sets say what each session reaches
pub record AreReached (sets : List ℕ) (es : List (ℕ × SessionAccess)) : Type 0 where
  pub whole : length sets % 256 ≡ 0
  pub within : length es ≤ length sets
  pub marks : AreMarksOf sets (reach_at es)
