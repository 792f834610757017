-- What a line says, from left to right, with the first fault that is met.
use Rattle.std.specs.Prelude.{◌≡◌, ℕ, List, [], ◌∷◌, map, Bool, false, Option, None, Some, Result, Ok, Err, ◌==◌, if◌then◌else◌}
use Rattle.text_words.specs.Words.{words}
use Rattle.move_core.specs.declared.moves.Move.TheVariants as plan
use Rattle.rbac_core.specs.declared.command.Command.{Command as PolicyCommand}
use Rattle.rbac_core.specs.declared.command.Command.TheVariants as policy
use Rattle.board_rules.specs.declared.call.Call.TheVariants as calls
use Rattle.board_rules.specs.declared.hold.Hold.{Hold as HoldCall}
use Rattle.board_rules.specs.declared.review.Review.TheVariants as reviews
use Rattle.board_rules.specs.Holds.{call_of}
use Rattle.board_lines.specs.declared.command.Command.{Command}
use Rattle.board_lines.specs.declared.command.Command.TheVariants.{Skip, Submit, List as ListRows, Json, Audit, Check, Review}
use Rattle.board_lines.specs.declared.command.LineFault.{LineFault}
use Rattle.board_lines.specs.declared.command.LineFault.TheVariants as faults
use Rattle.board_lines.specs.declared.command.ReadFault.{ReadFault}
use Rattle.board_lines.specs.declared.command.ReadFault.TheVariants.{Line, NoMemory}
use Rattle.board_lines.specs.declared.word.Word.{Word}
use Rattle.board_lines.specs.declared.word.Word.TheVariants.{Propose, Hold, Manage, Separate, Session, Ask}
use Rattle.board_lines.specs.declared.word.MoveWord.TheVariants as moves
use Rattle.board_lines.specs.declared.word.HoldWord.TheVariants as holds
use Rattle.board_lines.specs.declared.word.ManageWord.TheVariants as manages
use Rattle.board_lines.specs.declared.word.SetWord.TheVariants as sets
use Rattle.board_lines.specs.declared.word.SessionWord.TheVariants as sessions
use Rattle.board_lines.specs.declared.word.AskWord.TheVariants as asks
use Rattle.board_lines.specs.declared.reading.Head.{Head}
use Rattle.board_lines.specs.declared.reading.Proposed.{Proposed}
use Rattle.board_lines.specs.declared.reading.Order.{Order}
use Rattle.board_lines.specs.declared.reading.Head.TheVariants as heads
use Rattle.board_lines.specs.Table.{row_of, word_of}
use Rattle.board_lines.specs.Arguments.{Arguments, no_more, the_object, the_range, the_names, a_number, a_name, an_operation, ◌>>=◌, number_arg, arguments_of}

-- What a function returned is what was to be read, unless memory ran out.
abbrev pub Says : {A : Type 0} → Result A ReadFault → Result A LineFault → Type 0
Says (Ok x) read = read ≡ Ok x
Says (Err NoMemory) read = Unit {0}
Says (Err (Line fault)) read = read ≡ Err fault

abbrev pub SaysAs : {A : Type 0} → (A → Arguments) → Result A ReadFault → Result Arguments LineFault → Type 0
SaysAs f (Ok x) read = read ≡ Ok (f x)
SaysAs f (Err NoMemory) read = Unit {0}
SaysAs f (Err (Line fault)) read = read ≡ Err fault

-- What a function returned is the proposal, or the fault, that was to be read.
abbrev pub Proposes : Result Proposed LineFault → Result Command LineFault → Type 0
Proposes (Ok p) read = read ≡ Ok (Submit (calls.Propose p.session p.base p.mv))
Proposes (Err fault) read = read ≡ Err fault

-- What a function returned is the call on a pin or on a frozen front, or the fault, that was to be read.
abbrev pub Holds : Result HoldCall LineFault → Result Command LineFault → Type 0
Holds (Ok hold) read = read ≡ Ok (Submit (call_of hold))
Holds (Err fault) read = read ≡ Err fault

abbrev pub by_policy : ℕ → PolicyCommand → Command
by_policy session command = Submit (calls.Policy session command)

-- What a function returned is the change of the policy, or the fault, that was to be read.
abbrev pub Orders : Result Order LineFault → Result Command LineFault → Type 0
Orders (Ok o) read = read ≡ Ok (by_policy o.session o.command)
Orders (Err fault) read = read ≡ Err fault

-- ---- the command of a word and its arguments; nothing else follows

unfoldable pub command_of : ℕ → Word → Arguments → Command
command_of s (Propose moves.Insert) (a_number c (a_number v (a_number p (a_number b no_more)))) = Submit (calls.Propose s b (plan.Insert c v p))
command_of s (Propose moves.Remove) (a_number v (a_number p (a_number b no_more))) = Submit (calls.Propose s b (plan.Remove v p))
command_of s (Propose moves.Shift) (a_number v (a_number p (a_number l (a_number w (a_number q (a_number b no_more)))))) = Submit (calls.Propose s b (plan.Shift v p l w q))
command_of s (Propose moves.Swap) (a_number v (a_number p (a_number w (a_number q (a_number b no_more))))) = Submit (calls.Propose s b (plan.Swap v p w q))
command_of s (Propose moves.Reverse) (a_number v (a_number p (a_number q (a_number b no_more)))) = Submit (calls.Propose s b (plan.Reverse v p q))
command_of s (Propose moves.Cross) (a_number v (a_number k (a_number w (a_number l (a_number b no_more))))) = Submit (calls.Propose s b (plan.Cross v k w l))
command_of s (Hold holds.Pin) (a_number c no_more) = Submit (calls.Pin s c)
command_of s (Hold holds.Unpin) (a_number c no_more) = Submit (calls.Unpin s c)
command_of s (Hold holds.Freeze) (a_number v (a_number l no_more)) = Submit (calls.Freeze s v l)
command_of s (Hold holds.Thaw) (a_number v (a_number l no_more)) = Submit (calls.Thaw s v l)
command_of s (Manage manages.AddUser) (a_name u no_more) = by_policy s (policy.AddUser u)
command_of s (Manage manages.DeleteUser) (a_name u no_more) = by_policy s (policy.DeleteUser u)
command_of s (Manage manages.AddRole) (a_name r no_more) = by_policy s (policy.AddRole r)
command_of s (Manage manages.DeleteRole) (a_name r no_more) = by_policy s (policy.DeleteRole r)
command_of s (Manage manages.Assign) (a_name u (a_name r no_more)) = by_policy s (policy.AssignUser u r)
command_of s (Manage manages.Deassign) (a_name u (a_name r no_more)) = by_policy s (policy.DeassignUser u r)
command_of s (Manage manages.Grant) (a_name r (an_operation op (the_range range))) = by_policy s (policy.GrantPermission r op range)
command_of s (Manage manages.Revoke) (a_name r (an_operation op (the_range range))) = by_policy s (policy.RevokePermission r op range)
command_of s (Manage manages.Inherit) (a_name r (a_name j no_more)) = by_policy s (policy.AddInheritance r j)
command_of s (Manage manages.Uninherit) (a_name r (a_name j no_more)) = by_policy s (policy.DeleteInheritance r j)
command_of s (Manage manages.Migrate) no_more = by_policy s policy.Migrate
command_of s (Separate kind sets.Create) (a_name x (a_number n (the_names rs))) = by_policy s (policy.CreateSet kind x n rs)
command_of s (Separate kind sets.Add) (a_name x (a_name r no_more)) = by_policy s (policy.AddSetMember kind x r)
command_of s (Separate kind sets.Drop) (a_name x (a_name r no_more)) = by_policy s (policy.DeleteSetMember kind x r)
command_of s (Separate kind sets.Delete) (a_name x no_more) = by_policy s (policy.DeleteSet kind x)
command_of s (Separate kind sets.Number) (a_name x (a_number n no_more)) = by_policy s (policy.SetCardinality kind x n)
command_of s (Session sessions.Open) (a_name u (the_names rs)) = by_policy s (policy.CreateSession u rs)
command_of s (Session sessions.Close) (a_number n no_more) = by_policy s (policy.DeleteSession n)
command_of s (Session sessions.Activate) (a_number n (a_name r no_more)) = by_policy s (policy.AddActiveRole n r)
command_of s (Session sessions.Deactivate) (a_number n (a_name r no_more)) = by_policy s (policy.DropActiveRole n r)
command_of s (Ask asks.List) no_more = ListRows s
command_of s (Ask asks.Json) no_more = Json s
command_of s (Ask asks.Audit) no_more = Audit s
command_of s (Ask asks.Check) (an_operation op (the_object o)) = Check s op o
command_of s (Ask asks.Users) (a_name r no_more) = Review s (reviews.Users r)
command_of s (Ask asks.Roles) (a_name u no_more) = Review s (reviews.Roles u)
command_of s (Ask asks.Active) (a_number n no_more) = Review s (reviews.Active n)
command_of s _ _ = Skip

-- ---- lines

-- the words after the command's word
abbrev pub after_word : ℕ → Word → List (List ℕ) → Result Command LineFault
after_word session word args = arguments_of (row_of word).kinds args >>= λ read. Ok (command_of session word read)

abbrev pub named_by : ℕ → List (List ℕ) → Option Word → Result Command LineFault
named_by session args None = Err faults.Word
named_by session args (Some word) = after_word session word args

-- the words after the session
abbrev pub after_session : ℕ → List (List ℕ) → Result Command LineFault
after_session session [] = Err faults.Word
after_session session (word ∷ args) = named_by session args (word_of word)

-- a word that begins with a number sign
abbrev pub is_comment : List ℕ → Bool
is_comment [] = false
is_comment (c ∷ cs) = c == 35

unfoldable pub words_read : List (List ℕ) → Result Command LineFault
words_read [] = Ok Skip
words_read (first ∷ rest) = if is_comment first then Ok Skip else (number_arg first >>= λ session. after_session session rest)

-- what the line says
abbrev pub read_of : List ℕ → Result Command LineFault
read_of line = words_read (words line)

-- What a function returned is what the line begins with, where this is what the line says: a fault is the line's fault, and after a session
-- and a command the words that follow say the rest.
abbrev pub Begins : Result Head LineFault → Result Command LineFault → Type 0
Begins (Err fault) read = read ≡ Err fault
Begins (Ok heads.Skip) read = read ≡ Ok Skip
Begins (Ok (heads.Asks session word args)) read = read ≡ after_word session word (map (λ w. w.now) args.now)
