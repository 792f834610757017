-- The sessions whose access a command may change, from the policy before and after it.
use Rattle.std.specs.Prelude.{ℕ, Bool, not, ◌==◌, List, [], ◌∷◌, filter}
use Rattle.policy_core.specs.State.{PolicyState, session_of}
use Rattle.policy_core.specs.Reviews.{all_sessions, sessions_of}
use Rattle.rbac_core.specs.declared.command.Command.{Command}
use Rattle.rbac_core.specs.declared.command.Command.TheVariants.{DeleteUser, DeleteRole, DeassignUser, GrantPermission, RevokePermission, AddInheritance, DeleteInheritance, CreateSession, DeleteSession, AddActiveRole, DropActiveRole, Migrate}

-- the session's active roles differ from those before
abbrev pub has_lost : PolicyState → PolicyState → ℕ → Bool
has_lost old new session = not ((session_of old session).active == (session_of new session).active)

abbrev pub affected_sessions : PolicyState → Command → PolicyState → List ℕ
affected_sessions old (GrantPermission role operation range) new = all_sessions new
affected_sessions old (RevokePermission role operation range) new = all_sessions new
affected_sessions old (AddInheritance senior junior) new = all_sessions new
affected_sessions old (DeleteInheritance senior junior) new = all_sessions new
affected_sessions old (DeleteRole role) new = all_sessions new
affected_sessions old (DeassignUser user role) new = sessions_of old user
affected_sessions old (DeleteUser user) new = sessions_of old user
affected_sessions old (CreateSession user roles) new = new.last ∷ []
affected_sessions old (DeleteSession session) new = session ∷ []
affected_sessions old (AddActiveRole session role) new = session ∷ []
affected_sessions old (DropActiveRole session role) new = session ∷ []
affected_sessions old Migrate new = filter (has_lost old new) (all_sessions old)
affected_sessions old _ new = []
