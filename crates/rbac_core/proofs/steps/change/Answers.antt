use Rattle.std.proofs.Common.{refl}
use Rattle.rbac_core.proofs.ChangeLaws.{changed, changed_or_lacking}
use Rattle.rbac_core.proofs.steps.change.Goals as goal

pub returns-in-AddUser : goal.returns-in-AddUser
returns-in-AddUser c = changed_or_lacking c.args.policy.now c.add_user.new.self c.args.command.now _ c.in-AddUser.is refl c.add_user.result c.add_user.ensures.ok c.add_user.ensures.allowed c.add_user.ensures.err c.add_user.ensures.refused

pub returns-in-DeleteUser : goal.returns-in-DeleteUser
returns-in-DeleteUser c = changed c.args.policy.now c.delete_user.new.self c.args.command.now _ c.in-DeleteUser.is c.delete_user.result c.delete_user.ensures.ok c.delete_user.ensures.err c.delete_user.ensures.refused

pub returns-in-AddRole : goal.returns-in-AddRole
returns-in-AddRole c = changed_or_lacking c.args.policy.now c.add_role.new.self c.args.command.now _ c.in-AddRole.is refl c.add_role.result c.add_role.ensures.ok c.add_role.ensures.allowed c.add_role.ensures.err c.add_role.ensures.refused

pub returns-in-DeleteRole : goal.returns-in-DeleteRole
returns-in-DeleteRole c = changed c.args.policy.now c.delete_role.new.self c.args.command.now _ c.in-DeleteRole.is c.delete_role.result c.delete_role.ensures.ok c.delete_role.ensures.err c.delete_role.ensures.refused

pub returns-in-AssignUser : goal.returns-in-AssignUser
returns-in-AssignUser c = changed c.args.policy.now c.assign_user.new.self c.args.command.now _ c.in-AssignUser.is c.assign_user.result c.assign_user.ensures.ok c.assign_user.ensures.err c.assign_user.ensures.refused

pub returns-in-DeassignUser : goal.returns-in-DeassignUser
returns-in-DeassignUser c = changed c.args.policy.now c.deassign_user.new.self c.args.command.now _ c.in-DeassignUser.is c.deassign_user.result c.deassign_user.ensures.ok c.deassign_user.ensures.err c.deassign_user.ensures.refused

pub returns-in-AddInheritance : goal.returns-in-AddInheritance
returns-in-AddInheritance c = changed_or_lacking c.args.policy.now c.add_inheritance.new.self c.args.command.now _ c.in-AddInheritance.is refl c.add_inheritance.result c.add_inheritance.ensures.ok c.add_inheritance.ensures.allowed c.add_inheritance.ensures.err c.add_inheritance.ensures.refused

pub returns-in-DeleteInheritance : goal.returns-in-DeleteInheritance
returns-in-DeleteInheritance c = changed c.args.policy.now c.delete_inheritance.new.self c.args.command.now _ c.in-DeleteInheritance.is c.delete_inheritance.result c.delete_inheritance.ensures.ok c.delete_inheritance.ensures.err c.delete_inheritance.ensures.refused

pub returns-in-AddSetMember : goal.returns-in-AddSetMember
returns-in-AddSetMember c = changed c.args.policy.now c.add_set_member.new.self c.args.command.now _ c.in-AddSetMember.is c.add_set_member.result c.add_set_member.ensures.ok c.add_set_member.ensures.err c.add_set_member.ensures.refused

pub returns-in-DeleteSetMember : goal.returns-in-DeleteSetMember
returns-in-DeleteSetMember c = changed c.args.policy.now c.delete_set_member.new.self c.args.command.now _ c.in-DeleteSetMember.is c.delete_set_member.result c.delete_set_member.ensures.ok c.delete_set_member.ensures.err c.delete_set_member.ensures.refused

pub returns-in-DeleteSet : goal.returns-in-DeleteSet
returns-in-DeleteSet c = changed c.args.policy.now c.delete_set.new.self c.args.command.now _ c.in-DeleteSet.is c.delete_set.result c.delete_set.ensures.ok c.delete_set.ensures.err c.delete_set.ensures.refused

pub returns-in-SetCardinality : goal.returns-in-SetCardinality
returns-in-SetCardinality c = changed c.args.policy.now c.set_cardinality.new.self c.args.command.now _ c.in-SetCardinality.is c.set_cardinality.result c.set_cardinality.ensures.ok c.set_cardinality.ensures.err c.set_cardinality.ensures.refused

pub returns-in-DeleteSession : goal.returns-in-DeleteSession
returns-in-DeleteSession c = changed c.args.policy.now c.delete_session.new.self c.args.command.now _ c.in-DeleteSession.is c.delete_session.result c.delete_session.ensures.ok c.delete_session.ensures.err c.delete_session.ensures.refused

pub returns-in-AddActiveRole : goal.returns-in-AddActiveRole
returns-in-AddActiveRole c = changed c.args.policy.now c.add_active_role.new.self c.args.command.now _ c.in-AddActiveRole.is c.add_active_role.result c.add_active_role.ensures.ok c.add_active_role.ensures.err c.add_active_role.ensures.refused

pub returns-in-DropActiveRole : goal.returns-in-DropActiveRole
returns-in-DropActiveRole c = changed c.args.policy.now c.drop_active_role.new.self c.args.command.now _ c.in-DropActiveRole.is c.drop_active_role.result c.drop_active_role.ensures.ok c.drop_active_role.ensures.err c.drop_active_role.ensures.refused

pub returns-in-Migrate : goal.returns-in-Migrate
returns-in-Migrate c = changed c.args.policy.now c.migrate.new.self c.args.command.now _ c.in-Migrate.is c.migrate.result c.migrate.ensures.ok c.migrate.ensures.err c.migrate.ensures.refused
