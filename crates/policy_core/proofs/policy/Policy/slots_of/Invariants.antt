use Rattle.std.proofs.Common.{◌≡◌, true, take}
use Rattle.std.specs.List.{list_all}
use Rattle.policy_core.specs.State.{is_role}
use Rattle.policy_core.specs.Commands.{slots_of}
use Rattle.policy_core.proofs.policy.Policy.slots_of.Given as goal

abbrev pub invariant-loop-role : goal.invariant-loop-role
invariant-loop-role l = (list_all (is_role l.self) (take l.role-index l.roles) ≡ true) × (l.set ≡ slots_of l.self (take l.role-index l.roles))
