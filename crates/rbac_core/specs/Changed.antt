-- The parts of a policy that a command may change.
use Rattle.std.specs.Prelude.{true, false, Some}
use Rattle.policy_core.specs.declared.parts.Parts.{Parts}
use Rattle.policy_core.specs.declared.separation.Separation.{Separation}
use Rattle.policy_core.specs.Kinds.{by_kind}
use Rattle.policy_core.specs.Parts.{no_parts}
use Rattle.rbac_core.specs.declared.command.Command.{Command}
use Rattle.rbac_core.specs.declared.command.Command.TheVariants.{AddUser, DeleteUser, AddRole, DeleteRole, AssignUser, DeassignUser, GrantPermission, RevokePermission, AddInheritance, DeleteInheritance, CreateSet, AddSetMember, DeleteSetMember, DeleteSet, SetCardinality, CreateSession, DeleteSession, AddActiveRole, DropActiveRole, Migrate}

-- the sets of a kind
abbrev pub sets_part : Separation → Parts
sets_part kind = record no_parts { ssd = by_kind kind true false; dsd = by_kind kind false true }

abbrev pub parts_of : Command → Parts
parts_of (AddUser user) = record no_parts { users = true }
parts_of (DeleteUser user) = record no_parts { users = true; sessions = true }
parts_of (AddRole role) = record no_parts { roles = true; order = true }
parts_of (DeleteRole role) = record no_parts { users = true; roles = true; order = true; grants = Some role; sessions = true }
parts_of (AssignUser user role) = record no_parts { users = true }
parts_of (DeassignUser user role) = record no_parts { users = true; sessions = true }
parts_of (GrantPermission role operation range) = record no_parts { grants = Some role }
parts_of (RevokePermission role operation range) = record no_parts { grants = Some role }
parts_of (AddInheritance senior junior) = record no_parts { order = true }
parts_of (DeleteInheritance senior junior) = record no_parts { order = true; sessions = true }
parts_of (CreateSet kind name number roles) = sets_part kind
parts_of (AddSetMember kind name role) = sets_part kind
parts_of (DeleteSetMember kind name role) = sets_part kind
parts_of (DeleteSet kind name) = sets_part kind
parts_of (SetCardinality kind name number) = sets_part kind
parts_of (CreateSession user roles) = record no_parts { sessions = true }
parts_of (DeleteSession session) = record no_parts { sessions = true }
parts_of (AddActiveRole session role) = record no_parts { sessions = true }
parts_of (DropActiveRole session role) = record no_parts { sessions = true }
parts_of Migrate = record no_parts { sessions = true }
