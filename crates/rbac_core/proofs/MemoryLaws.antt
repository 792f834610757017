-- No command is refused by its definition because memory ran out.
use Rattle.std.proofs.Common.{◌≡◌, ◌≢◌, ℕ, not, Bool, true, false, cond, List, Option, Some, None, refl, sym, ap, ◌∙◌}
use Rattle.std.specs.Option.{option_map, option_or}
use Rattle.std.proofs.lemmas.Bool.{true≢false}
use Rattle.role_hierarchy.specs.Roles.{has}
use Rattle.role_hierarchy.specs.Order.{stands}
use Rattle.role_hierarchy.specs.Below.{juniors_of}
use Rattle.separation_core.specs.Groups.{Groups, limit_of, new_refusal, number_refusal, add_refusal, drop_refusal, set_refusal, delete_refusal}
use Rattle.separation_core.specs.declared.sets.Limit.{Limit}
use Rattle.separation_core.specs.declared.sets.SetFault.{SetFault}
use Rattle.separation_core.specs.declared.sets.SetFault.TheVariants as fault
use Rattle.policy_core.specs.declared.refusal.Refusal.{Refusal}
use Rattle.policy_core.specs.declared.refusal.Refusal.TheVariants.{NoUser, NoRole, BadObject, Cycle, InSet, Already, NotThere, NotAuthorized, Full, NoMemory, Ssd, Dsd}
use Rattle.policy_core.specs.declared.session.Counting.{Counting}
use Rattle.policy_core.specs.declared.session.Counting.TheVariants.{Active, Inherited}
use Rattle.policy_core.specs.declared.separation.Separation.{Separation}
use Rattle.policy_core.specs.declared.separation.Separation.TheVariants.{Static, Dynamic}
use Rattle.policy_core.specs.Kinds.{sets_of, broken_by}
use Rattle.policy_core.specs.State.{PolicyState, is_role, slot_of, broken_ssd, broken_dsd, broken}
use Rattle.policy_core.specs.Commands.{slots_of, assigned, inherited, set_created, member_added, set_numbered, opened, activated, as_refusal, add_user_refusal, delete_user_refusal, add_role_refusal, delete_role_refusal, assign_refusal, deassign_refusal, grant_refusal, inherit_refusal, uninherit_refusal, create_set_refusal, add_member_refusal, delete_member_refusal, cardinality_refusal, open_refusal, close_refusal, activate_refusal, deactivate_refusal, migrate_refusal}
use Rattle.rbac_core.specs.declared.command.Command.{Command}
use Rattle.rbac_core.specs.declared.command.Command.TheVariants.{AddUser, DeleteUser, AddRole, DeleteRole, AssignUser, DeassignUser, GrantPermission, RevokePermission, AddInheritance, DeleteInheritance, CreateSet, AddSetMember, DeleteSetMember, DeleteSet, SetCardinality, CreateSession, DeleteSession, AddActiveRole, DropActiveRole, Migrate}
use Rattle.rbac_core.specs.Step.{refusal_of}

abbrev IsOther : Option Refusal → Type 0
IsOther refusal = refusal ≢ Some NoMemory

abbrev IsOtherFault : Option SetFault → Type 0
IsOtherFault found = found ≢ Some fault.NoMemory

abbrev is_memory : Option Refusal → Bool
is_memory (Some NoMemory) = true
is_memory refusal = false

abbrev is_memory_fault : Option SetFault → Bool
is_memory_fault (Some fault.NoMemory) = true
is_memory_fault found = false

apart : {refusal : Option Refusal} → is_memory refusal ≡ false → IsOther refusal
apart other h = true≢false (sym (ap is_memory h) ∙ other)

apart_fault : {found : Option SetFault} → is_memory_fault found ≡ false → IsOtherFault found
apart_fault other h = true≢false (sym (ap is_memory_fault h) ∙ other)

none : IsOther None
none = apart refl

-- a reason other than running out of memory, or what comes after it
first : (test : Bool) (due : Refusal) (rest : Option Refusal) → IsOther (Some due) → IsOther rest → IsOther (cond test (Some due) rest)
first true due rest one other = one
first false due rest one other = other

either : (a b : Option Refusal) → IsOther a → IsOther b → IsOther (option_or a b)
either None b one other = other
either (Some e) b one other = one

ssd : (p : PolicyState) → IsOther (broken_ssd p)
ssd p = by _
  where
    by : (found : Option (List ℕ)) → IsOther (option_map Ssd found)
    by None = apart refl
    by (Some name) = apart refl

dsd : (p : PolicyState) → IsOther (broken_dsd p)
dsd p = by _
  where
    by : (found : Option (List ℕ)) → IsOther (option_map Dsd found)
    by None = apart refl
    by (Some name) = apart refl

by_sets : (kind : Separation) (p : PolicyState) → IsOther (broken_by kind p)
by_sets Static p = ssd p
by_sets Dynamic p = dsd p

some_set : (p : PolicyState) → IsOther (broken p)
some_set p = either (broken_ssd p) (broken_dsd p) (ssd p) (dsd p)

-- faults of a change of the sets
of_fault : (due : Refusal) → IsOther (Some due) → (found : Option SetFault) → IsOtherFault found → IsOther (as_refusal due found)
of_fault due one None other = none
of_fault due one (Some fault.NoSet) other = apart refl
of_fault due one (Some fault.Already) other = apart refl
of_fault due one (Some fault.Member) other = one
of_fault due one (Some fault.Small) other = apart refl
of_fault due one (Some fault.Large) other = apart refl
of_fault due one (Some fault.Full) other = apart refl
of_fault due one (Some fault.NoMemory) other = λ h. other refl

first_fault : (test : Bool) (due : SetFault) (rest : Option SetFault) → IsOtherFault (Some due) → IsOtherFault rest → IsOtherFault (cond test (Some due) rest)
first_fault true due rest one other = one
first_fault false due rest one other = other

of_number : (roles number : ℕ) → IsOtherFault (number_refusal roles number)
unfolding number_refusal
of_number roles number = first_fault _ fault.Small _ (apart_fault refl) (first_fault _ fault.Large None (apart_fault refl) (apart_fault refl))

of_new : (groups : Groups) (name : List ℕ) (roles number : ℕ) → IsOtherFault (new_refusal groups name roles number)
unfolding new_refusal
of_new groups name roles number = first_fault _ fault.Already _ (apart_fault refl) (of_number roles number)

of_add : (found : Option Limit) (role : ℕ) → IsOtherFault (add_refusal found role)
of_add None role = apart_fault refl
of_add (Some limit) role = first_fault _ fault.Member None (apart_fault refl) (apart_fault refl)

of_drop : (found : Option Limit) (role : ℕ) → IsOtherFault (drop_refusal found role)
of_drop None role = apart_fault refl
of_drop (Some limit) role = first_fault _ fault.Member _ (apart_fault refl) (of_number _ limit.number)

of_set : (found : Option Limit) (number : ℕ) → IsOtherFault (set_refusal found number)
of_set None number = apart_fault refl
of_set (Some limit) number = of_number limit.roles number

of_delete : (found : Option Limit) → IsOtherFault (delete_refusal found)
of_delete None = apart_fault refl
of_delete (Some limit) = apart_fault refl

of_migrate : (counting : Counting) → IsOther (migrate_refusal counting)
of_migrate Active = apart refl
of_migrate Inherited = apart refl

of_inherit : (p : PolicyState) (senior junior : List ℕ) → IsOther (inherit_refusal p senior junior)
unfolding inherit_refusal
of_inherit p senior junior =
    first (not (is_role p senior)) NoRole _ (apart refl) (first (not (is_role p junior)) NoRole _ (apart refl)
    (first (stands p.order (slot_of p senior) (slot_of p junior)) Already _ (apart refl)
    (first (has (juniors_of p.order (slot_of p junior)) (slot_of p senior)) Cycle _ (apart refl) (some_set (inherited p senior junior)))))

of_uninherit : (p : PolicyState) (senior junior : List ℕ) → IsOther (uninherit_refusal p senior junior)
unfolding uninherit_refusal
of_uninherit p senior junior =
    first (not (is_role p senior)) NoRole _ (apart refl) (first (not (is_role p junior)) NoRole _ (apart refl)
    (first (not (stands p.order (slot_of p senior) (slot_of p junior))) NotThere None (apart refl) none))

pub other_reason : (p : PolicyState) (command : Command) → refusal_of p command ≢ Some NoMemory
unfolding add_user_refusal delete_user_refusal add_role_refusal delete_role_refusal assign_refusal deassign_refusal grant_refusal create_set_refusal add_member_refusal delete_member_refusal cardinality_refusal open_refusal close_refusal activate_refusal deactivate_refusal
other_reason p (AddUser user) = first _ Already _ (apart refl) (first _ Full None (apart refl) none)
other_reason p (DeleteUser user) = first _ NoUser None (apart refl) none
other_reason p (AddRole role) = first _ Already _ (apart refl) (first _ Full None (apart refl) none)
other_reason p (DeleteRole role) = first _ NoRole _ (apart refl) (first _ InSet None (apart refl) none)
other_reason p (AssignUser user role) = first _ NoUser _ (apart refl) (first _ NoRole _ (apart refl) (first _ Already _ (apart refl) (ssd (assigned p user role))))
other_reason p (DeassignUser user role) = first _ NoUser _ (apart refl) (first _ NoRole _ (apart refl) (first _ NotThere None (apart refl) none))
other_reason p (GrantPermission role operation range) = first _ NoRole _ (apart refl) (first _ BadObject None (apart refl) none)
other_reason p (RevokePermission role operation range) = first _ NoRole _ (apart refl) (first _ BadObject None (apart refl) none)
other_reason p (AddInheritance senior junior) = of_inherit p senior junior
other_reason p (DeleteInheritance senior junior) = of_uninherit p senior junior
other_reason p (CreateSet kind name number roles) =
    first _ NoRole _ (apart refl) (either _ _ (of_fault NotThere (apart refl) _ (of_new (sets_of kind p) name (slots_of p roles) number)) (either _ _ (by_sets kind (set_created kind p name number roles)) (first _ Full None (apart refl) none)))
other_reason p (AddSetMember kind name role) = first _ NoRole _ (apart refl) (either _ _ (of_fault Already (apart refl) _ (of_add (limit_of (sets_of kind p) name) (slot_of p role))) (by_sets kind (member_added kind p name role)))
other_reason p (DeleteSetMember kind name role) = first _ NoRole _ (apart refl) (of_fault NotThere (apart refl) _ (of_drop (limit_of (sets_of kind p) name) (slot_of p role)))
other_reason p (DeleteSet kind name) = of_fault NotThere (apart refl) _ (of_delete (limit_of (sets_of kind p) name))
other_reason p (SetCardinality kind name number) = either _ _ (of_fault NotThere (apart refl) _ (of_set (limit_of (sets_of kind p) name) number)) (by_sets kind (set_numbered kind p name number))
other_reason p (CreateSession user roles) =
    first _ NoUser _ (apart refl) (first _ NoRole _ (apart refl) (first _ NotAuthorized _ (apart refl) (either _ _ (dsd (opened p user roles)) (first _ Full None (apart refl) none))))
other_reason p (DeleteSession session) = first _ NotThere None (apart refl) none
other_reason p (AddActiveRole session role) =
    first _ NoRole _ (apart refl) (first _ Already _ (apart refl) (first _ NotThere _ (apart refl) (first _ NotAuthorized _ (apart refl) (dsd (activated p session role)))))
other_reason p (DropActiveRole session role) = first _ NoRole _ (apart refl) (first _ NotThere None (apart refl) none)
other_reason p Migrate = of_migrate p.counting
