-- The table of commands: the word of each, and the arguments that follow it.
use Rattle.std.specs.Prelude.{ℕ, List, [], ◌∷◌, codes, map, filter, bytes_eq, Option, ◌==◌}
use Rattle.std.specs.Map.{lookup}
use Rattle.board_lines.specs.declared.word.Word.{Word}
use Rattle.board_lines.specs.declared.word.Word.TheVariants.{Propose, Hold, Manage, Separate, Session, Ask}
use Rattle.policy_core.specs.declared.separation.Separation.TheVariants.{Static, Dynamic}
use Rattle.policy_core.specs.Kinds.{by_kind}
use Rattle.board_lines.specs.declared.word.MoveWord.TheVariants as moves
use Rattle.board_lines.specs.declared.word.HoldWord.TheVariants as holds
use Rattle.board_lines.specs.declared.word.ManageWord.TheVariants as manages
use Rattle.board_lines.specs.declared.word.SetWord.TheVariants as sets
use Rattle.board_lines.specs.declared.word.SessionWord.TheVariants as sessions
use Rattle.board_lines.specs.declared.word.AskWord.TheVariants as asks

-- What follows a command's word: words that are each a number, a name or an operation, and then nothing more, an object (board, vehicle N
-- or customer N), a range (board, vehicle A B or customer A B) or any number of names.
pub data Kinds : Type 0 where
  nothing : Kinds
  object : Kinds
  range : Kinds
  names : Kinds
  number : Kinds → Kinds
  name : Kinds → Kinds
  operation : Kinds → Kinds

-- a command's word, and what follows it
pub record Row : Type 0 where
  pub text : List ℕ
  pub kinds : Kinds

abbrev pub row : List ℕ → Kinds → Row
row t k = record { text = t; kinds = k }

abbrev pub row_of : Word → Row
-- proposals, the base last
row_of (Propose moves.Insert) = row (codes "insert") (number (number (number (number nothing))))
row_of (Propose moves.Remove) = row (codes "remove") (number (number (number nothing)))
row_of (Propose moves.Shift) = row (codes "shift") (number (number (number (number (number (number nothing))))))
row_of (Propose moves.Swap) = row (codes "swap") (number (number (number (number (number nothing)))))
row_of (Propose moves.Reverse) = row (codes "reverse") (number (number (number (number nothing))))
row_of (Propose moves.Cross) = row (codes "cross") (number (number (number (number (number nothing)))))
-- pins and freezes
row_of (Hold holds.Pin) = row (codes "pin") (number nothing)
row_of (Hold holds.Unpin) = row (codes "unpin") (number nothing)
row_of (Hold holds.Freeze) = row (codes "freeze") (number (number nothing))
row_of (Hold holds.Thaw) = row (codes "thaw") (number (number nothing))
-- users, roles, assignments, permissions and pairs
row_of (Manage manages.AddUser) = row (codes "add-user") (name nothing)
row_of (Manage manages.DeleteUser) = row (codes "delete-user") (name nothing)
row_of (Manage manages.AddRole) = row (codes "add-role") (name nothing)
row_of (Manage manages.DeleteRole) = row (codes "delete-role") (name nothing)
row_of (Manage manages.Assign) = row (codes "assign") (name (name nothing))
row_of (Manage manages.Deassign) = row (codes "deassign") (name (name nothing))
row_of (Manage manages.Grant) = row (codes "grant") (name (operation range))
row_of (Manage manages.Revoke) = row (codes "revoke") (name (operation range))
row_of (Manage manages.Inherit) = row (codes "inherit") (name (name nothing))
row_of (Manage manages.Uninherit) = row (codes "uninherit") (name (name nothing))
row_of (Manage manages.Migrate) = row (codes "migrate") nothing
-- sets of separation of duty
row_of (Separate kind sets.Create) = row (by_kind kind (codes "ssd-create") (codes "dsd-create")) (name (number names))
row_of (Separate kind sets.Add) = row (by_kind kind (codes "ssd-add") (codes "dsd-add")) (name (name nothing))
row_of (Separate kind sets.Drop) = row (by_kind kind (codes "ssd-drop") (codes "dsd-drop")) (name (name nothing))
row_of (Separate kind sets.Delete) = row (by_kind kind (codes "ssd-delete") (codes "dsd-delete")) (name nothing)
row_of (Separate kind sets.Number) = row (by_kind kind (codes "ssd-number") (codes "dsd-number")) (name (number nothing))
-- sessions
row_of (Session sessions.Open) = row (codes "open") (name names)
row_of (Session sessions.Close) = row (codes "close") (number nothing)
row_of (Session sessions.Activate) = row (codes "activate") (number (name nothing))
row_of (Session sessions.Deactivate) = row (codes "deactivate") (number (name nothing))
-- questions
row_of (Ask asks.List) = row (codes "list") nothing
row_of (Ask asks.Json) = row (codes "json") nothing
row_of (Ask asks.Audit) = row (codes "audit") nothing
row_of (Ask asks.Check) = row (codes "check") (operation object)
row_of (Ask asks.Users) = row (codes "users") (name nothing)
row_of (Ask asks.Roles) = row (codes "roles") (name nothing)
row_of (Ask asks.Active) = row (codes "active") (number nothing)

abbrev pub all_words : List Word
all_words =
    Ask asks.List ∷ Ask asks.Json ∷ Ask asks.Audit ∷ Ask asks.Check ∷ Ask asks.Users ∷ Ask asks.Roles ∷ Ask asks.Active
    ∷ Propose moves.Insert ∷ Propose moves.Remove ∷ Propose moves.Shift ∷ Propose moves.Swap ∷ Propose moves.Reverse ∷ Propose moves.Cross
    ∷ Hold holds.Pin ∷ Hold holds.Unpin ∷ Hold holds.Freeze ∷ Hold holds.Thaw
    ∷ Manage manages.AddUser ∷ Manage manages.DeleteUser ∷ Manage manages.AddRole ∷ Manage manages.DeleteRole
    ∷ Manage manages.Assign ∷ Manage manages.Deassign ∷ Manage manages.Grant ∷ Manage manages.Revoke
    ∷ Manage manages.Inherit ∷ Manage manages.Uninherit ∷ Manage manages.Migrate
    ∷ Separate Static sets.Create ∷ Separate Static sets.Add ∷ Separate Static sets.Drop ∷ Separate Static sets.Delete ∷ Separate Static sets.Number
    ∷ Separate Dynamic sets.Create ∷ Separate Dynamic sets.Add ∷ Separate Dynamic sets.Drop ∷ Separate Dynamic sets.Delete ∷ Separate Dynamic sets.Number
    ∷ Session sessions.Open ∷ Session sessions.Close ∷ Session sessions.Activate ∷ Session sessions.Deactivate
    ∷ []

-- each command by its word
abbrev pub table : List (List ℕ × Word)
table = map (λ w. ((row_of w).text, w)) all_words

-- the first byte of a word, and 0 where it has none
abbrev pub first_byte : List ℕ → ℕ
first_byte [] = 0
first_byte (b ∷ bs) = b

-- the commands whose words begin with that letter
abbrev pub of_letter : ℕ → List (List ℕ × Word)
of_letter letter = filter (λ e. first_byte e.0 == letter) table

-- the command that the word names
unfoldable pub word_of : List ℕ → Option Word
word_of w = lookup (bytes_eq w) table
