-- The set-up of the workers: calls of session 1, and their replies.
use Rattle.std.specs.Prelude.{◌≡◌, ℕ, zero, suc, ◌+◌, List, [], ◌∷◌, ◌++◌, codes}
use Rattle.rbac_core.specs.declared.command.Command.{Command as PolicyCommand}
use Rattle.rbac_core.specs.declared.command.Command.TheVariants as commands
use Rattle.board_rules.specs.declared.call.Call.{Call}
use Rattle.board_rules.specs.declared.call.Call.TheVariants as calls
use Rattle.board_rules.specs.declared.reply.Reply.{Reply}
use Rattle.board_rules.specs.declared.reply.Reply.TheVariants as replies
use Rattle.board_lines.specs.declared.command.Command.{Command}
use Rattle.board_lines.specs.declared.command.Command.TheVariants.{Submit}
use Rattle.line_engine.specs.Answers.{Answer, Replied}

-- a command of session 1
abbrev pub by_root : PolicyCommand → Call
by_root command = calls.Policy 1 command

-- the name of the workers' user, and that of their role
abbrev pub worker : List ℕ
worker = codes "worker"

-- the user, the role, and that the one is assigned to the other
abbrev pub user_and_role : List (Call × Reply)
user_and_role =
    (by_root (commands.AddUser worker), replies.Done)
    ∷ (by_root (commands.AddRole worker), replies.Done)
    ∷ (by_root (commands.AssignUser worker worker), replies.Done) ∷ []

-- a session for each of n workers, 2 for the first, in which the role is active
abbrev pub sessions_to : ℕ → List (Call × Reply)
sessions_to zero = []
sessions_to (suc n) = sessions_to n ++ (by_root (commands.CreateSession worker (worker ∷ [])), replies.Session (n + 2)) ∷ []

-- nothing is set up where there are no workers, and nothing is granted to their role
abbrev pub set_up_of : ℕ → List (Call × Reply)
set_up_of zero = []
set_up_of (suc n) = user_and_role ++ sessions_to (suc n)

-- From old these calls have these replies, one after another, and leave new.
abbrev pub AreAsked : {S : Type 0} → (S → Command → Answer → S → Type 0) → S → List (Call × Reply) → S → Type 0
AreAsked step old [] new = new ≡ old
AreAsked {S} step old (asked ∷ more) new = (mid : S) × step old (Submit asked.0) (Replied asked.1) mid × AreAsked step mid more new
