-- What a command does not change.
use Rattle.std.proofs.Common.{◌≡◌, ℕ, Option, Some, None, true, sym, refl}
use Rattle.std.specs.Option.{option_map_or}
use Rattle.std.proofs.lemmas.Bool.{false≢true}
use Rattle.role_hierarchy.specs.Roles.{first_free}
use Rattle.separation_core.specs.Groups.{Groups, with_set, with_member, without_member, without_set, with_number}
use Rattle.policy_core.specs.declared.separation.Separation.{Separation}
use Rattle.policy_core.specs.declared.separation.Separation.TheVariants.{Static, Dynamic}
use Rattle.policy_core.specs.Kinds.{sets_of, with_sets}
use Rattle.policy_core.specs.Parts.{DifferIn, no_parts}
use Rattle.policy_core.specs.RowLaws.{cleared-row_set, cleared_twice}
use Rattle.policy_core.specs.State.{PolicyState, slot_of}
use Rattle.policy_core.specs.Commands.{role_at, slots_of}
use Rattle.rbac_core.specs.declared.command.Command.{Command}
use Rattle.rbac_core.specs.declared.command.Command.TheVariants.{AddUser, DeleteUser, AddRole, DeleteRole, AssignUser, DeassignUser, GrantPermission, RevokePermission, AddInheritance, DeleteInheritance, CreateSet, AddSetMember, DeleteSetMember, DeleteSet, SetCardinality, CreateSession, DeleteSession, AddActiveRole, DropActiveRole, Migrate}
use Rattle.rbac_core.specs.Step.{after, takes_memory}
use Rattle.rbac_core.specs.Changed.{parts_of, sets_part}

-- other sets of a kind
sets_differ : (kind : Separation) (p : PolicyState) (sets : Groups) → DifferIn (sets_part kind) (with_sets kind p sets) p
sets_differ Static p sets = record { users = λ same. refl; roles = λ same. refl; order = λ same. refl; grants = refl; ssd = λ marked. absurd (false≢true (sym marked)); dsd = λ same. refl; sessions = λ same. refl }
sets_differ Dynamic p sets = record { users = λ same. refl; roles = λ same. refl; order = λ same. refl; grants = refl; ssd = λ same. refl; dsd = λ marked. absurd (false≢true (sym marked)); sessions = λ same. refl }

sets_lack : (kind : Separation) (p : PolicyState) (sets : Groups) → DifferIn (sets_part kind) p (with_sets kind p sets)
sets_lack Static p sets = record { users = λ same. refl; roles = λ same. refl; order = λ same. refl; grants = refl; ssd = λ marked. absurd (false≢true (sym marked)); dsd = λ same. refl; sessions = λ same. refl }
sets_lack Dynamic p sets = record { users = λ same. refl; roles = λ same. refl; order = λ same. refl; grants = refl; ssd = λ same. refl; dsd = λ marked. absurd (false≢true (sym marked)); sessions = λ same. refl }

pub differs : (p : PolicyState) (command : Command) → DifferIn (parts_of command) (after p command) p
differs p (AddUser user) = record { users = λ marked. absurd (false≢true (sym marked)); roles = λ same. refl; order = λ same. refl; grants = refl; ssd = λ same. refl; dsd = λ same. refl; sessions = λ same. refl }
differs p (DeleteUser user) = record { users = λ marked. absurd (false≢true (sym marked)); roles = λ same. refl; order = λ same. refl; grants = refl; ssd = λ same. refl; dsd = λ same. refl; sessions = λ marked. absurd (false≢true (sym marked)) }
differs p (AddRole role) = by (first_free p.order.roles)
  where
    by : (slot : Option ℕ) → DifferIn (record no_parts { roles = true; order = true }) (option_map_or (role_at p role) slot p) p
    by None = record { users = λ same. refl; roles = λ same. refl; order = λ same. refl; grants = refl; ssd = λ same. refl; dsd = λ same. refl; sessions = λ same. refl }
    by (Some slot) = record { users = λ same. refl; roles = λ marked. absurd (false≢true (sym marked)); order = λ marked. absurd (false≢true (sym marked)); grants = refl; ssd = λ same. refl; dsd = λ same. refl; sessions = λ same. refl }
differs p (DeleteRole role) = record { users = λ marked. absurd (false≢true (sym marked)); roles = λ marked. absurd (false≢true (sym marked)); order = λ marked. absurd (false≢true (sym marked)); grants = cleared_twice p.grants (slot_of p role); ssd = λ same. refl; dsd = λ same. refl; sessions = λ marked. absurd (false≢true (sym marked)) }
differs p (AssignUser user role) = record { users = λ marked. absurd (false≢true (sym marked)); roles = λ same. refl; order = λ same. refl; grants = refl; ssd = λ same. refl; dsd = λ same. refl; sessions = λ same. refl }
differs p (DeassignUser user role) = record { users = λ marked. absurd (false≢true (sym marked)); roles = λ same. refl; order = λ same. refl; grants = refl; ssd = λ same. refl; dsd = λ same. refl; sessions = λ marked. absurd (false≢true (sym marked)) }
differs p (GrantPermission role operation range) = record { users = λ same. refl; roles = λ same. refl; order = λ same. refl; grants = cleared-row_set p.grants (slot_of p role) operation _; ssd = λ same. refl; dsd = λ same. refl; sessions = λ same. refl }
differs p (RevokePermission role operation range) = record { users = λ same. refl; roles = λ same. refl; order = λ same. refl; grants = cleared-row_set p.grants (slot_of p role) operation _; ssd = λ same. refl; dsd = λ same. refl; sessions = λ same. refl }
differs p (AddInheritance senior junior) = record { users = λ same. refl; roles = λ same. refl; order = λ marked. absurd (false≢true (sym marked)); grants = refl; ssd = λ same. refl; dsd = λ same. refl; sessions = λ same. refl }
differs p (DeleteInheritance senior junior) = record { users = λ same. refl; roles = λ same. refl; order = λ marked. absurd (false≢true (sym marked)); grants = refl; ssd = λ same. refl; dsd = λ same. refl; sessions = λ marked. absurd (false≢true (sym marked)) }
differs p (CreateSet kind name number roles) = sets_differ kind p (with_set (sets_of kind p) name (record { roles = slots_of p roles; number = number }))
differs p (AddSetMember kind name role) = sets_differ kind p (with_member (sets_of kind p) name (slot_of p role))
differs p (DeleteSetMember kind name role) = sets_differ kind p (without_member (sets_of kind p) name (slot_of p role))
differs p (DeleteSet kind name) = sets_differ kind p (without_set (sets_of kind p) name)
differs p (SetCardinality kind name number) = sets_differ kind p (with_number (sets_of kind p) name number)
differs p (CreateSession user roles) = record { users = λ same. refl; roles = λ same. refl; order = λ same. refl; grants = refl; ssd = λ same. refl; dsd = λ same. refl; sessions = λ marked. absurd (false≢true (sym marked)) }
differs p (DeleteSession session) = record { users = λ same. refl; roles = λ same. refl; order = λ same. refl; grants = refl; ssd = λ same. refl; dsd = λ same. refl; sessions = λ marked. absurd (false≢true (sym marked)) }
differs p (AddActiveRole session role) = record { users = λ same. refl; roles = λ same. refl; order = λ same. refl; grants = refl; ssd = λ same. refl; dsd = λ same. refl; sessions = λ marked. absurd (false≢true (sym marked)) }
differs p (DropActiveRole session role) = record { users = λ same. refl; roles = λ same. refl; order = λ same. refl; grants = refl; ssd = λ same. refl; dsd = λ same. refl; sessions = λ marked. absurd (false≢true (sym marked)) }
differs p Migrate = record { users = λ same. refl; roles = λ same. refl; order = λ same. refl; grants = refl; ssd = λ same. refl; dsd = λ same. refl; sessions = λ marked. absurd (false≢true (sym marked)) }

-- What the policy before a command lacks, where the command takes memory.
pub lacks : (p : PolicyState) (command : Command) → takes_memory command ≡ true → DifferIn (parts_of command) p (after p command)
lacks p (AddUser user) takes = record { users = λ marked. absurd (false≢true (sym marked)); roles = λ same. refl; order = λ same. refl; grants = refl; ssd = λ same. refl; dsd = λ same. refl; sessions = λ same. refl }
lacks p (AddRole role) takes = by (first_free p.order.roles)
  where
    by : (slot : Option ℕ) → DifferIn (record no_parts { roles = true; order = true }) p (option_map_or (role_at p role) slot p)
    by None = record { users = λ same. refl; roles = λ same. refl; order = λ same. refl; grants = refl; ssd = λ same. refl; dsd = λ same. refl; sessions = λ same. refl }
    by (Some slot) = record { users = λ same. refl; roles = λ marked. absurd (false≢true (sym marked)); order = λ marked. absurd (false≢true (sym marked)); grants = refl; ssd = λ same. refl; dsd = λ same. refl; sessions = λ same. refl }
lacks p (AddInheritance senior junior) takes = record { users = λ same. refl; roles = λ same. refl; order = λ marked. absurd (false≢true (sym marked)); grants = refl; ssd = λ same. refl; dsd = λ same. refl; sessions = λ same. refl }
lacks p (CreateSet kind name number roles) takes = sets_lack kind p (with_set (sets_of kind p) name (record { roles = slots_of p roles; number = number }))
lacks p (CreateSession user roles) takes = record { users = λ same. refl; roles = λ same. refl; order = λ same. refl; grants = refl; ssd = λ same. refl; dsd = λ same. refl; sessions = λ marked. absurd (false≢true (sym marked)) }
lacks p command takes = absurd (false≢true takes)
