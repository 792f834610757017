-- A command and what it says determine each other.
use Rattle.std.proofs.Common.{◌≡◌, ℕ, List, Some, refl}
use Rattle.move_core.specs.declared.moves.Move.{Move}
use Rattle.move_core.specs.declared.moves.Move.TheVariants as plan
use Rattle.permission_core.specs.declared.objects.Operation.{Operation}
use Rattle.permission_core.specs.declared.objects.Object.{Object}
use Rattle.permission_core.specs.declared.objects.ObjectRange.{ObjectRange}
use Rattle.rbac_core.specs.declared.command.Command.{Command as PolicyCommand}
use Rattle.rbac_core.specs.declared.command.Command.TheVariants as policy
use Rattle.board_rules.specs.declared.call.Call.{Call}
use Rattle.board_rules.specs.declared.call.Call.TheVariants as calls
use Rattle.board_rules.specs.declared.review.Review.TheVariants as reviews
use Rattle.board_lines.specs.declared.command.Command.{Command}
use Rattle.board_lines.specs.declared.command.Command.TheVariants.{Submit, List as ListRows, Json, Audit, Check, Review}
use Rattle.board_lines.specs.declared.word.Word.{Word}
use Rattle.board_lines.specs.declared.word.Word.TheVariants.{Propose, Hold, Manage, Separate, Session, Ask}
use Rattle.board_lines.specs.declared.word.MoveWord.{MoveWord}
use Rattle.board_lines.specs.declared.word.HoldWord.{HoldWord}
use Rattle.board_lines.specs.declared.word.ManageWord.{ManageWord}
use Rattle.board_lines.specs.declared.word.SetWord.{SetWord}
use Rattle.board_lines.specs.declared.word.SessionWord.{SessionWord}
use Rattle.board_lines.specs.declared.word.AskWord.{AskWord}
use Rattle.policy_core.specs.declared.separation.Separation.{Separation}
use Rattle.policy_core.specs.declared.separation.Separation.TheVariants.{Static, Dynamic}
use Rattle.board_lines.specs.declared.word.MoveWord.TheVariants as moves
use Rattle.board_lines.specs.declared.word.HoldWord.TheVariants as holds
use Rattle.board_lines.specs.declared.word.ManageWord.TheVariants as manages
use Rattle.board_lines.specs.declared.word.SetWord.TheVariants as sets
use Rattle.board_lines.specs.declared.word.SessionWord.TheVariants as sessions
use Rattle.board_lines.specs.declared.word.AskWord.TheVariants as asks
use Rattle.board_lines.specs.Table.{Kinds, nothing, object, range, names, number, name, operation, row_of, word_of}
use Rattle.board_lines.specs.Arguments.{Arguments, no_more, the_object, the_range, the_names, a_number, a_name, an_operation}
use Rattle.board_lines.specs.Reading.{command_of}
use Rattle.board_lines.specs.Saying.{Said, say, move_said, policy_said, call_said}
use Rattle.board_lines.specs.Grammar.{IsLine, IsCommandText}

-- the kinds of some arguments
abbrev pub kinds_of : Arguments → Kinds
kinds_of no_more = nothing
kinds_of (the_object o) = object
kinds_of (the_range r) = range
kinds_of (the_names ns) = names
kinds_of (a_number n more) = number (kinds_of more)
kinds_of (a_name n more) = name (kinds_of more)
kinds_of (an_operation op more) = operation (kinds_of more)

-- ---- each word names its command

pub named_so : (w : Word) → word_of (row_of w).text ≡ Some w
unfolding word_of
named_so (Propose moves.Insert) = refl
named_so (Propose moves.Remove) = refl
named_so (Propose moves.Shift) = refl
named_so (Propose moves.Swap) = refl
named_so (Propose moves.Reverse) = refl
named_so (Propose moves.Cross) = refl
named_so (Hold holds.Pin) = refl
named_so (Hold holds.Unpin) = refl
named_so (Hold holds.Freeze) = refl
named_so (Hold holds.Thaw) = refl
named_so (Manage manages.AddUser) = refl
named_so (Manage manages.DeleteUser) = refl
named_so (Manage manages.AddRole) = refl
named_so (Manage manages.DeleteRole) = refl
named_so (Manage manages.Assign) = refl
named_so (Manage manages.Deassign) = refl
named_so (Manage manages.Grant) = refl
named_so (Manage manages.Revoke) = refl
named_so (Manage manages.Inherit) = refl
named_so (Manage manages.Uninherit) = refl
named_so (Manage manages.Migrate) = refl
named_so (Separate Static sets.Create) = refl
named_so (Separate Static sets.Add) = refl
named_so (Separate Static sets.Drop) = refl
named_so (Separate Static sets.Delete) = refl
named_so (Separate Static sets.Number) = refl
named_so (Separate Dynamic sets.Create) = refl
named_so (Separate Dynamic sets.Add) = refl
named_so (Separate Dynamic sets.Drop) = refl
named_so (Separate Dynamic sets.Delete) = refl
named_so (Separate Dynamic sets.Number) = refl
named_so (Session sessions.Open) = refl
named_so (Session sessions.Close) = refl
named_so (Session sessions.Activate) = refl
named_so (Session sessions.Deactivate) = refl
named_so (Ask asks.List) = refl
named_so (Ask asks.Json) = refl
named_so (Ask asks.Audit) = refl
named_so (Ask asks.Check) = refl
named_so (Ask asks.Users) = refl
named_so (Ask asks.Roles) = refl
named_so (Ask asks.Active) = refl

-- ---- from a command to what it says, and back

-- what is said has the kinds of its word, and is read as the command
pub record Says (said : Said) (command : Command) : Type 0 where
  pub kinds : (row_of said.word).kinds ≡ kinds_of said.arguments
  pub made : command_of said.session said.word said.arguments ≡ command

move_says : (s b : ℕ) (mv : Move) → Says (move_said s b mv) (Submit (calls.Propose s b mv))
unfolding command_of
move_says s b (plan.Insert c v p) = record { kinds = refl; made = refl }
move_says s b (plan.Remove v p) = record { kinds = refl; made = refl }
move_says s b (plan.Shift v p l w q) = record { kinds = refl; made = refl }
move_says s b (plan.Swap v p w q) = record { kinds = refl; made = refl }
move_says s b (plan.Reverse v p q) = record { kinds = refl; made = refl }
move_says s b (plan.Cross v k w l) = record { kinds = refl; made = refl }

policy_says : (s : ℕ) (command : PolicyCommand) → Says (policy_said s command) (Submit (calls.Policy s command))
unfolding command_of
policy_says s (policy.AddUser u) = record { kinds = refl; made = refl }
policy_says s (policy.DeleteUser u) = record { kinds = refl; made = refl }
policy_says s (policy.AddRole r) = record { kinds = refl; made = refl }
policy_says s (policy.DeleteRole r) = record { kinds = refl; made = refl }
policy_says s (policy.AssignUser u r) = record { kinds = refl; made = refl }
policy_says s (policy.DeassignUser u r) = record { kinds = refl; made = refl }
policy_says s (policy.GrantPermission r op over) = record { kinds = refl; made = refl }
policy_says s (policy.RevokePermission r op over) = record { kinds = refl; made = refl }
policy_says s (policy.AddInheritance r j) = record { kinds = refl; made = refl }
policy_says s (policy.DeleteInheritance r j) = record { kinds = refl; made = refl }
policy_says s policy.Migrate = record { kinds = refl; made = refl }
policy_says s (policy.CreateSet kind x n rs) = record { kinds = refl; made = refl }
policy_says s (policy.AddSetMember kind x r) = record { kinds = refl; made = refl }
policy_says s (policy.DeleteSetMember kind x r) = record { kinds = refl; made = refl }
policy_says s (policy.DeleteSet kind x) = record { kinds = refl; made = refl }
policy_says s (policy.SetCardinality kind x n) = record { kinds = refl; made = refl }
policy_says s (policy.CreateSession u rs) = record { kinds = refl; made = refl }
policy_says s (policy.DeleteSession n) = record { kinds = refl; made = refl }
policy_says s (policy.AddActiveRole n r) = record { kinds = refl; made = refl }
policy_says s (policy.DropActiveRole n r) = record { kinds = refl; made = refl }

pub call_says : (call : Call) → Says (call_said call) (Submit call)
unfolding command_of
call_says (calls.Propose s b mv) = move_says s b mv
call_says (calls.Pin s c) = record { kinds = refl; made = refl }
call_says (calls.Unpin s c) = record { kinds = refl; made = refl }
call_says (calls.Freeze s v l) = record { kinds = refl; made = refl }
call_says (calls.Thaw s v l) = record { kinds = refl; made = refl }
call_says (calls.Policy s command) = policy_says s command

pub list_says : (s : ℕ) → Says (say s (Ask asks.List) no_more) (ListRows s)
unfolding command_of
list_says s = record { kinds = refl; made = refl }

pub json_says : (s : ℕ) → Says (say s (Ask asks.Json) no_more) (Json s)
unfolding command_of
json_says s = record { kinds = refl; made = refl }

pub audit_says : (s : ℕ) → Says (say s (Ask asks.Audit) no_more) (Audit s)
unfolding command_of
audit_says s = record { kinds = refl; made = refl }

-- ---- from the words of a command to the command

-- P holds of all arguments of these kinds
abbrev OfKinds : Kinds → (Arguments → Type 0) → Type 0
OfKinds nothing P = P no_more
OfKinds object P = (o : Object) → P (the_object o)
OfKinds range P = (r : ObjectRange) → P (the_range r)
OfKinds names P = (ns : List (List ℕ)) → P (the_names ns)
OfKinds (number more) P = (n : ℕ) → OfKinds more (λ a. P (a_number n a))
OfKinds (name more) P = (n : List ℕ) → OfKinds more (λ a. P (a_name n a))
OfKinds (operation more) P = (op : Operation) → OfKinds more (λ a. P (an_operation op a))

at_arguments : (a : Arguments) (P : Arguments → Type 0) → OfKinds (kinds_of a) P → P a
at_arguments no_more P h = h
at_arguments (the_object o) P h = h o
at_arguments (the_range r) P h = h r
at_arguments (the_names ns) P h = h ns
at_arguments (a_number n more) P h = at_arguments more (λ a. P (a_number n a)) (h n)
at_arguments (a_name n more) P h = at_arguments more (λ a. P (a_name n a)) (h n)
at_arguments (an_operation op more) P h = at_arguments more (λ a. P (an_operation op a)) (h op)

abbrev IsText : ℕ → Word → List (List ℕ) → Arguments → Type 0
IsText s w ws a = IsLine ws (say s w a) → IsCommandText ws (command_of s w a)

text_of : (s : ℕ) (w : Word) (ws : List (List ℕ)) → OfKinds (row_of w).kinds (IsText s w ws)
unfolding command_of
text_of s (Propose moves.Insert) ws = λ _ _ _ _ h. h
text_of s (Propose moves.Remove) ws = λ _ _ _ h. h
text_of s (Propose moves.Shift) ws = λ _ _ _ _ _ _ h. h
text_of s (Propose moves.Swap) ws = λ _ _ _ _ _ h. h
text_of s (Propose moves.Reverse) ws = λ _ _ _ _ h. h
text_of s (Propose moves.Cross) ws = λ _ _ _ _ _ h. h
text_of s (Hold holds.Pin) ws = λ _ h. h
text_of s (Hold holds.Unpin) ws = λ _ h. h
text_of s (Hold holds.Freeze) ws = λ _ _ h. h
text_of s (Hold holds.Thaw) ws = λ _ _ h. h
text_of s (Manage manages.AddUser) ws = λ _ h. h
text_of s (Manage manages.DeleteUser) ws = λ _ h. h
text_of s (Manage manages.AddRole) ws = λ _ h. h
text_of s (Manage manages.DeleteRole) ws = λ _ h. h
text_of s (Manage manages.Assign) ws = λ _ _ h. h
text_of s (Manage manages.Deassign) ws = λ _ _ h. h
text_of s (Manage manages.Grant) ws = λ _ _ _ h. h
text_of s (Manage manages.Revoke) ws = λ _ _ _ h. h
text_of s (Manage manages.Inherit) ws = λ _ _ h. h
text_of s (Manage manages.Uninherit) ws = λ _ _ h. h
text_of s (Manage manages.Migrate) ws = λ h. h
text_of s (Separate kind sets.Create) ws = λ _ _ _ h. h
text_of s (Separate kind sets.Add) ws = λ _ _ h. h
text_of s (Separate kind sets.Drop) ws = λ _ _ h. h
text_of s (Separate kind sets.Delete) ws = λ _ h. h
text_of s (Separate kind sets.Number) ws = λ _ _ h. h
text_of s (Session sessions.Open) ws = λ _ _ h. h
text_of s (Session sessions.Close) ws = λ _ h. h
text_of s (Session sessions.Activate) ws = λ _ _ h. h
text_of s (Session sessions.Deactivate) ws = λ _ _ h. h
text_of s (Ask asks.List) ws = λ h. h
text_of s (Ask asks.Json) ws = λ h. h
text_of s (Ask asks.Audit) ws = λ h. h
text_of s (Ask asks.Check) ws = λ _ _ h. h
text_of s (Ask asks.Users) ws = λ _ h. h
text_of s (Ask asks.Roles) ws = λ _ h. h
text_of s (Ask asks.Active) ws = λ _ h. h

pub command_text : (s : ℕ) (w : Word) (a : Arguments) (ws : List (List ℕ)) → kinds_of a ≡ (row_of w).kinds → IsLine ws (say s w a) → IsCommandText ws (command_of s w a)
command_text s w a ws e = at_arguments a (IsText s w ws) (rw e (text_of s w ws))

-- ---- questions

pub check_says : (s : ℕ) (op : Operation) (o : Object) → Says (say s (Ask asks.Check) (an_operation op (the_object o))) (Check s op o)
unfolding command_of
check_says s op o = record { kinds = refl; made = refl }

pub users_says : (s : ℕ) (role : List ℕ) → Says (say s (Ask asks.Users) (a_name role no_more)) (Review s (reviews.Users role))
unfolding command_of
users_says s role = record { kinds = refl; made = refl }

pub roles_says : (s : ℕ) (user : List ℕ) → Says (say s (Ask asks.Roles) (a_name user no_more)) (Review s (reviews.Roles user))
unfolding command_of
roles_says s user = record { kinds = refl; made = refl }

pub active_says : (s n : ℕ) → Says (say s (Ask asks.Active) (a_number n no_more)) (Review s (reviews.Active n))
unfolding command_of
active_says s n = record { kinds = refl; made = refl }
