-- What each command says: its session, its word and its arguments; and the one text of a call.
use Rattle.std.specs.Prelude.{◌≡◌, ℕ, ◌<◌, ◌^◌, List, [], ◌∷◌, ◌++◌, true, codes, Ok}
use Rattle.std.specs.List.{flat_map, list_all}
use Rattle.std.specs.Fmt.{decimal}
use Rattle.separation_core.specs.Names.{is_name}
use Rattle.move_core.specs.declared.moves.Move.{Move}
use Rattle.move_core.specs.declared.moves.Move.TheVariants as plan
use Rattle.permission_core.specs.declared.objects.Object.{Object}
use Rattle.permission_core.specs.declared.objects.Object.TheVariants as objects
use Rattle.permission_core.specs.declared.objects.ObjectRange.{ObjectRange}
use Rattle.permission_core.specs.declared.objects.ObjectRange.TheVariants as ranges
use Rattle.rbac_core.specs.declared.command.Command.{Command as PolicyCommand}
use Rattle.rbac_core.specs.declared.command.Command.TheVariants as policy
use Rattle.board_rules.specs.declared.call.Call.{Call}
use Rattle.board_rules.specs.declared.call.Call.TheVariants as calls
use Rattle.board_lines.specs.declared.command.Command.TheVariants.{Submit}
use Rattle.board_lines.specs.declared.word.Word.{Word}
use Rattle.board_lines.specs.declared.word.Word.TheVariants.{Propose, Hold, Manage, Separate, Session}
use Rattle.board_lines.specs.declared.word.MoveWord.TheVariants as moves
use Rattle.board_lines.specs.declared.word.HoldWord.TheVariants as holds
use Rattle.board_lines.specs.declared.word.ManageWord.TheVariants as manages
use Rattle.board_lines.specs.declared.word.SetWord.TheVariants as sets
use Rattle.board_lines.specs.declared.word.SessionWord.TheVariants as sessions
use Rattle.board_lines.specs.Table.{row_of}
use Rattle.board_lines.specs.Arguments.{Arguments, no_more, the_object, the_range, the_names, a_number, a_name, an_operation, operation_word}
use Rattle.board_lines.specs.Reading.{read_of}

-- the content of a line
pub record Said : Type 0 where
  pub session : ℕ
  pub word : Word
  pub arguments : Arguments

abbrev pub say : ℕ → Word → Arguments → Said
say s w a = record { session = s; word = w; arguments = a }

-- a proposal's base comes last
abbrev pub move_said : ℕ → ℕ → Move → Said
move_said s b (plan.Insert c v p) = say s (Propose moves.Insert) (a_number c (a_number v (a_number p (a_number b no_more))))
move_said s b (plan.Remove v p) = say s (Propose moves.Remove) (a_number v (a_number p (a_number b no_more)))
move_said s b (plan.Shift v p l w q) = say s (Propose moves.Shift) (a_number v (a_number p (a_number l (a_number w (a_number q (a_number b no_more))))))
move_said s b (plan.Swap v p w q) = say s (Propose moves.Swap) (a_number v (a_number p (a_number w (a_number q (a_number b no_more)))))
move_said s b (plan.Reverse v p q) = say s (Propose moves.Reverse) (a_number v (a_number p (a_number q (a_number b no_more))))
move_said s b (plan.Cross v k w l) = say s (Propose moves.Cross) (a_number v (a_number k (a_number w (a_number l (a_number b no_more)))))

abbrev pub policy_said : ℕ → PolicyCommand → Said
policy_said s (policy.AddUser u) = say s (Manage manages.AddUser) (a_name u no_more)
policy_said s (policy.DeleteUser u) = say s (Manage manages.DeleteUser) (a_name u no_more)
policy_said s (policy.AddRole r) = say s (Manage manages.AddRole) (a_name r no_more)
policy_said s (policy.DeleteRole r) = say s (Manage manages.DeleteRole) (a_name r no_more)
policy_said s (policy.AssignUser u r) = say s (Manage manages.Assign) (a_name u (a_name r no_more))
policy_said s (policy.DeassignUser u r) = say s (Manage manages.Deassign) (a_name u (a_name r no_more))
policy_said s (policy.GrantPermission r op range) = say s (Manage manages.Grant) (a_name r (an_operation op (the_range range)))
policy_said s (policy.RevokePermission r op range) = say s (Manage manages.Revoke) (a_name r (an_operation op (the_range range)))
policy_said s (policy.AddInheritance r j) = say s (Manage manages.Inherit) (a_name r (a_name j no_more))
policy_said s (policy.DeleteInheritance r j) = say s (Manage manages.Uninherit) (a_name r (a_name j no_more))
policy_said s policy.Migrate = say s (Manage manages.Migrate) no_more
policy_said s (policy.CreateSet kind x n rs) = say s (Separate kind sets.Create) (a_name x (a_number n (the_names rs)))
policy_said s (policy.AddSetMember kind x r) = say s (Separate kind sets.Add) (a_name x (a_name r no_more))
policy_said s (policy.DeleteSetMember kind x r) = say s (Separate kind sets.Drop) (a_name x (a_name r no_more))
policy_said s (policy.DeleteSet kind x) = say s (Separate kind sets.Delete) (a_name x no_more)
policy_said s (policy.SetCardinality kind x n) = say s (Separate kind sets.Number) (a_name x (a_number n no_more))
policy_said s (policy.CreateSession u rs) = say s (Session sessions.Open) (a_name u (the_names rs))
policy_said s (policy.DeleteSession n) = say s (Session sessions.Close) (a_number n no_more)
policy_said s (policy.AddActiveRole n r) = say s (Session sessions.Activate) (a_number n (a_name r no_more))
policy_said s (policy.DropActiveRole n r) = say s (Session sessions.Deactivate) (a_number n (a_name r no_more))

abbrev pub call_said : Call → Said
call_said (calls.Propose s b mv) = move_said s b mv
call_said (calls.Pin s c) = say s (Hold holds.Pin) (a_number c no_more)
call_said (calls.Unpin s c) = say s (Hold holds.Unpin) (a_number c no_more)
call_said (calls.Freeze s v l) = say s (Hold holds.Freeze) (a_number v (a_number l no_more))
call_said (calls.Thaw s v l) = say s (Hold holds.Thaw) (a_number v (a_number l no_more))
call_said (calls.Policy s command) = policy_said s command

-- ---- the words, numbers without leading zeros

abbrev pub object_words : Object → List (List ℕ)
object_words objects.Board = codes "board" ∷ []
object_words (objects.Vehicle n) = codes "vehicle" ∷ decimal n ∷ []
object_words (objects.Customer n) = codes "customer" ∷ decimal n ∷ []

abbrev pub range_words : ObjectRange → List (List ℕ)
range_words ranges.Board = codes "board" ∷ []
range_words (ranges.Vehicles first last) = codes "vehicle" ∷ decimal first ∷ decimal last ∷ []
range_words (ranges.Customers first last) = codes "customer" ∷ decimal first ∷ decimal last ∷ []

abbrev pub argument_words : Arguments → List (List ℕ)
argument_words no_more = []
argument_words (the_object o) = object_words o
argument_words (the_range range) = range_words range
argument_words (the_names ns) = ns
argument_words (a_number n more) = decimal n ∷ argument_words more
argument_words (a_name n more) = n ∷ argument_words more
argument_words (an_operation op more) = operation_word op ∷ argument_words more

-- each word with a space before it
abbrev pub behind : List (List ℕ) → List ℕ
behind = flat_map (λ w. 32 ∷ w)

-- the command's word and its arguments, each with a space before it
abbrev pub after_number : Said → List ℕ
after_number said = behind ((row_of said.word).text ∷ argument_words said.arguments)

-- the session and then the words, with single spaces
abbrev pub line_text : Said → List ℕ
line_text said = decimal said.session ++ after_number said

-- the line of a call, without a line end
abbrev pub event_text : Call → List ℕ
event_text call = line_text (call_said call)

-- ---- calls that have a text

abbrev pub IsObject : Object → Type 0
IsObject objects.Board = Unit {0}
IsObject (objects.Vehicle n) = n < 2 ^ 32
IsObject (objects.Customer n) = n < 2 ^ 32

abbrev pub IsRange : ObjectRange → Type 0
IsRange ranges.Board = Unit {0}
IsRange (ranges.Vehicles first last) = (first < 2 ^ 32) × (last < 2 ^ 32)
IsRange (ranges.Customers first last) = (first < 2 ^ 32) × (last < 2 ^ 32)

-- each number is at most 4,294,967,295, and each name is one
abbrev pub ArePlain : Arguments → Type 0
ArePlain no_more = Unit {0}
ArePlain (the_object o) = IsObject o
ArePlain (the_range range) = IsRange range
ArePlain (the_names ns) = list_all is_name ns ≡ true
ArePlain (a_number n more) = (n < 2 ^ 32) × ArePlain more
ArePlain (a_name n more) = (is_name n ≡ true) × ArePlain more
ArePlain (an_operation op more) = ArePlain more

abbrev pub IsCall : Call → Type 0
IsCall call = ((call_said call).session < 2 ^ 32) × ArePlain (call_said call).arguments

-- The text of a call is read as that call. Since reading is a function, it is read as nothing else.
abbrev pub TextIsRead : Type 0
TextIsRead = (call : Call) → IsCall call → read_of (event_text call) ≡ Ok (Submit call)
