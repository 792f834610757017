-- Separation of duty command by command.
use Rattle.std.proofs.Common.{◌≡◌, ℕ, Bool, true, false, List, [], ◌∷◌, length, Option, Some, None, refl, sym, ap, ◌∙◌, subst}
use Rattle.std.specs.Prelude.{not, bytes_eq, nat_eq, nat_le, if◌then◌else◌, count_ones}
use Rattle.std.specs.Map.{remove_entry}
use Rattle.std.specs.Option.{option_map_or, option_or}
use Rattle.std.proofs.lemmas.Bool.{and_from, leb-false, ltb-false, le-leb}
use Rattle.role_hierarchy.specs.Roles.{has, without, first_free}
use Rattle.role_hierarchy.specs.Order.{stands}
use Rattle.role_hierarchy.specs.Below.{closed, juniors_of, IsOrder}
use Rattle.separation_core.specs.Groups.{Groups, AreSets, first_breaking, first_broken, changed, limit_of, limit_with, limit_without, limit_of_number, with_set, without_set, is_sound, new_refusal, number_refusal, add_refusal, drop_refusal, set_refusal}
use Rattle.separation_core.specs.GroupLaws.{AreSets-with_set, AreSets-changed, changed-known, sound_limit_of, AreSets-without_set, is_sound-limit_with, breaking-without_member, breaking-without_set}
use Rattle.separation_core.specs.declared.sets.Limit.{Limit}
use Rattle.separation_core.specs.declared.sets.SetFault.{SetFault}
use Rattle.separation_core.specs.declared.sets.SetFault.TheVariants as fault
use Rattle.policy_core.specs.declared.refusal.Refusal.{Refusal as PolicyRefusal}
use Rattle.policy_core.specs.declared.refusal.Refusal.TheVariants.{NoUser, NoRole, Already, NotThere, NotAuthorized, Cycle, Full, Ssd, Dsd}
use Rattle.policy_core.specs.declared.separation.Separation.{Separation}
use Rattle.policy_core.specs.declared.session.Session.{Session}
use Rattle.policy_core.specs.Kinds.{sets_of, given_by}
use Rattle.policy_core.specs.State.{PolicyState, authorized, counted, counted_all, session_of, is_role, held_by, slot_of, with_roles}
use Rattle.policy_core.specs.Commands.{role_at, kept_session, kept_authorized, as_refusal, slots_of, assign_refusal, inherit_refusal, create_set_refusal, add_member_refusal, delete_member_refusal, cardinality_refusal, open_refusal, activate_refusal, opened}
use Rattle.rbac_core.specs.declared.command.Command.{Command}
use Rattle.rbac_core.specs.declared.command.Command.TheVariants.{AddUser, DeleteUser, AddRole, DeleteRole, AssignUser, DeassignUser, GrantPermission, RevokePermission, AddInheritance, DeleteInheritance, CreateSet, AddSetMember, DeleteSetMember, DeleteSet, SetCardinality, CreateSession, DeleteSession, AddActiveRole, DropActiveRole, Migrate}
use Rattle.rbac_core.specs.declared.command.Outcome.{Outcome}
use Rattle.rbac_core.specs.Step.{step, answered, guard, refusal_of, after, outcome_of}
use Rattle.board_rules.specs.Policies.{policy_after}
use Rattle.policy_core.specs.BreakLaws.{AreFewer, breaking_removed, breaking_filtered, closed_none, none_breaks}
use Rattle.policy_core.specs.CountLaws.{counted_fewer, counted_none}
use Rattle.board_rules.proofs.Orders.{slot_within, pair_within, all_within}
use Rattle.policy_core.specs.KeptLaws.{none_mapped, without_within, kept_within, kept_authorized_within, fewer_pairs, fewer_roles}
use Rattle.board_rules.proofs.Separation.{IsSeparate, lessened_at, lessened, slotted, with_user, user_lessened, sets_kept, unbroken, none_broken, with_other, with_sessions, with_one, migrated_keeps}

-- ---- refusals that do not come

none_if : {X : Type 0} (t : Bool) (r : X) (rest : Option X) → (if t then Some r else rest) ≡ None → (t ≡ false) × (rest ≡ None)
none_if true r rest h = absurd cc
none_if false r rest h = (refl, h)

none_or : (a b : Option PolicyRefusal) → option_or a b ≡ None → (a ≡ None) × (b ≡ None)
none_or None b h = (refl, h)
none_or (Some r) b h = absurd cc

none_as : (due : PolicyRefusal) (o : Option SetFault) → as_refusal due o ≡ None → o ≡ None
none_as due None h = refl
none_as due (Some fault.NoSet) h = absurd cc
none_as due (Some fault.Already) h = absurd cc
none_as due (Some fault.Member) h = absurd cc
none_as due (Some fault.Full) h = absurd cc
none_as due (Some fault.NoMemory) h = absurd cc
none_as due (Some fault.Small) h = absurd cc
none_as due (Some fault.Large) h = absurd cc

-- a number that is not refused makes a sound set
number_sound : (roles number : ℕ) → number_refusal roles number ≡ None → is_sound (record { roles = roles; number = number }) ≡ true
unfolding number_refusal
number_sound roles number h =
    let one = none_if _ fault.Small _ h in
    let two = none_if _ fault.Large _ one.1 in
    and_from _ _ (le-leb 2 number (ltb-false number 2 one.0)) (le-leb number (count_ones roles) (ltb-false (count_ones roles) number two.0))

new_sound : (groups : Groups) (name : List ℕ) (roles number : ℕ) → new_refusal groups name roles number ≡ None → is_sound (record { roles = roles; number = number }) ≡ true
unfolding new_refusal
new_sound groups name roles number h = number_sound roles number (none_if _ fault.Already _ h).1

-- ---- sets of which one is changed

-- a set that such a change does not refuse is there
there : (refusal : Option Limit → Option SetFault) → refusal None ≡ Some fault.NoSet → (found : Option Limit) → refusal found ≡ None → (limit : Limit) × (found ≡ Some limit)
there refusal absent None h = absurd cc
there refusal absent (Some limit) h = (limit, refl)

sets-changed : (groups : Groups) (name : List ℕ) (f : Limit → Limit) (limit : Limit) → limit_of groups name ≡ Some limit → is_sound (f limit) ≡ true → AreSets groups → AreSets (changed groups name f)
sets-changed groups name f limit at sound are = subst AreSets (changed-known groups name f limit (f limit) at refl) (AreSets-changed groups name (f limit) sound are)

sets-joined : (groups : Groups) (name : List ℕ) (role : ℕ) → add_refusal (limit_of groups name) role ≡ None → AreSets groups → AreSets (changed groups name (limit_with role))
sets-joined groups name role h are =
    let found = there (λ o. add_refusal o role) refl (limit_of groups name) h in
    sets-changed groups name (limit_with role) found.0 found.1 (is_sound-limit_with role found.0 (sound_limit_of groups name found.0 are.sound found.1)) are

sets-left : (groups : Groups) (name : List ℕ) (role : ℕ) → drop_refusal (limit_of groups name) role ≡ None → AreSets groups → AreSets (changed groups name (limit_without role))
sets-left groups name role h are =
    let found = there (λ o. drop_refusal o role) refl (limit_of groups name) h in
    sets-changed groups name (limit_without role) found.0 found.1
    (number_sound (without found.0.roles role) found.0.number (none_if _ fault.Member _ (sym (ap (λ (o : Option Limit). drop_refusal o role) found.1) ∙ h)).1) are

sets-numbered : (groups : Groups) (name : List ℕ) (number : ℕ) → set_refusal (limit_of groups name) number ≡ None → AreSets groups → AreSets (changed groups name (limit_of_number number))
sets-numbered groups name number h are =
    let found = there (λ o. set_refusal o number) refl (limit_of groups name) h in
    sets-changed groups name (limit_of_number number) found.0 found.1 (number_sound found.0.roles number (sym (ap (λ (o : Option Limit). set_refusal o number) found.1) ∙ h)) are

sets-created : (groups : Groups) (name : List ℕ) (roles number : ℕ) → new_refusal groups name roles number ≡ None → nat_le 64 (length groups) ≡ false → AreSets groups
    → AreSets (with_set groups name (record { roles = roles; number = number }))
sets-created groups name roles number h room are = AreSets-with_set groups name (record { roles = roles; number = number }) (leb-false 64 (length groups) room) (new_sound groups name roles number h) are

same_fewer : (xs : List ℕ) → AreFewer xs xs
same_fewer [] = tt
same_fewer (x ∷ xs) = ((λ q h. h), same_fewer xs)

-- ---- the commands

module _ (p : PolicyState) (order : IsOrder p.order) (is : IsSeparate p) where
  added_role : (role : List ℕ) (free : Option ℕ) → IsSeparate (option_map_or (role_at p role) free p)
  added_role role None = is
  added_role role (Some slot) = slotted p is role slot

  assigned_keeps : (user role : List ℕ) → assign_refusal p user role ≡ None → IsSeparate (after p (AssignUser user role))
  unfolding assign_refusal
  assigned_keeps user role h =
      let none = none_mapped Ssd _ (none_if _ Already _ (none_if _ NoRole _ (none_if _ NoUser _ h).1).1).1 in
      record { ssd_sets = is.ssd_sets; dsd_sets = is.dsd_sets; ssd = none; dsd = is.dsd }

  deassigned_keeps : (user role : List ℕ) → IsSeparate (after p (DeassignUser user role))
  deassigned_keeps user role =
      let slot : ℕ = slot_of p role in
      let left : ℕ = without (held_by p user) slot in
      let first : PolicyState = with_roles p user left in
      let kept = user_lessened p is order user (λ r. without r slot) (λ r q h. without_within r slot q h) in
      lessened first kept order (after p (DeassignUser user role)) order (all_within p.order) (kept_session user (closed p.order left)) (kept_within user (closed p.order left)) refl refl refl (same_fewer (authorized first)) refl

  inherited_keeps : (senior junior : List ℕ) → inherit_refusal p senior junior ≡ None → IsSeparate (after p (AddInheritance senior junior))
  unfolding inherit_refusal
  inherited_keeps senior junior h =
      let none = none_or _ _ (none_if (has (juniors_of p.order (slot_of p junior)) (slot_of p senior)) Cycle _
      (none_if (stands p.order (slot_of p senior) (slot_of p junior)) Already _
      (none_if (not (is_role p junior)) NoRole _ (none_if (not (is_role p senior)) NoRole _ h).1).1).1).1 in
      record { ssd_sets = is.ssd_sets; dsd_sets = is.dsd_sets; ssd = none_mapped Ssd _ none.0; dsd = none_mapped Dsd _ none.1 }

  dropped_keeps : (number : ℕ) (role : List ℕ) → IsSeparate (after p (DropActiveRole number role))
  dropped_keeps number role =
      let slot : ℕ = slot_of p role in
      with_one p is number (record (session_of p number) { active = without (session_of p number).active slot })
      (lessened_at (λ (x : Session). counted p.counting p.order x.active) (λ (x : Session). record x { active = without x.active slot })
      (λ x q h. counted_fewer p.counting p.order order (without x.active slot) x.active (λ c there. without_within x.active slot c there) q h)
      (nat_eq number) (record { user = []; active = 0 }) (counted_none p.counting p.order) p.sessions p.dsd is.dsd_sets is.dsd)

  created_keeps : (kind : Separation) (name : List ℕ) (number : ℕ) (roles : List (List ℕ)) → create_set_refusal kind p name number roles ≡ None → IsSeparate (after p (CreateSet kind name number roles))
  unfolding create_set_refusal
  created_keeps kind name number roles h =
      let one = none_or _ _ (none_if _ NoRole _ h).1 in
      let two = none_or _ _ one.1 in
      let room = (none_if _ Full _ two.1).0 in
      let sets : Groups = with_set (sets_of kind p) name (record { roles = slots_of p roles; number = number }) in
      with_other p is kind sets (sets-created (sets_of kind p) name (slots_of p roles) number (none_as NotThere _ one.0) room (sets_kept p is kind)) (none_broken p is kind sets two.0)

  joined_keeps : (kind : Separation) (name role : List ℕ) → add_member_refusal kind p name role ≡ None → IsSeparate (after p (AddSetMember kind name role))
  unfolding add_member_refusal
  joined_keeps kind name role h =
      let none = none_or _ _ (none_if _ NoRole _ h).1 in
      let sets : Groups = changed (sets_of kind p) name (limit_with (slot_of p role)) in
      with_other p is kind sets (sets-joined (sets_of kind p) name (slot_of p role) (none_as Already _ none.0) (sets_kept p is kind)) (none_broken p is kind sets none.1)

  left_keeps : (kind : Separation) (name role : List ℕ) → delete_member_refusal kind p name role ≡ None → IsSeparate (after p (DeleteSetMember kind name role))
  unfolding delete_member_refusal
  left_keeps kind name role h =
      with_other p is kind (changed (sets_of kind p) name (limit_without (slot_of p role))) (sets-left (sets_of kind p) name (slot_of p role) (none_as NotThere _ (none_if _ NoRole _ h).1) (sets_kept p is kind))
      (breaking-without_member (given_by kind p) (sets_of kind p) name (slot_of p role) (unbroken p is kind))

  numbered_keeps : (kind : Separation) (name : List ℕ) (number : ℕ) → cardinality_refusal kind p name number ≡ None → IsSeparate (after p (SetCardinality kind name number))
  unfolding cardinality_refusal
  numbered_keeps kind name number h =
      let one = none_or _ _ h in
      let sets : Groups = changed (sets_of kind p) name (limit_of_number number) in
      with_other p is kind sets (sets-numbered (sets_of kind p) name number (none_as NotThere _ one.0) (sets_kept p is kind)) (none_broken p is kind sets one.1)

  opened_keeps : (user : List ℕ) (roles : List (List ℕ)) → open_refusal p user roles ≡ None
      → first_breaking (counted_all (opened p user roles)) p.dsd ≡ None
  unfolding open_refusal
  opened_keeps user roles h = none_mapped Dsd _ (none_or _ _ (none_if _ NotAuthorized _ (none_if _ NoRole _ (none_if _ NoUser _ h).1).1).1).0

  activated_keeps : (number : ℕ) (role : List ℕ) → activate_refusal p number role ≡ None → IsSeparate (after p (AddActiveRole number role))
  unfolding activate_refusal
  activated_keeps number role h =
      let none = none_mapped Dsd _ (none_if _ NotAuthorized _ (none_if _ NotThere _ (none_if _ Already _ (none_if _ NoRole _ h).1).1).1).1 in
      record { ssd_sets = is.ssd_sets; dsd_sets = is.dsd_sets; ssd = is.ssd; dsd = none }

  pub separate : (command : Command) → IsOrder (after p command).order → refusal_of p command ≡ None → IsSeparate (after p command)
  separate (AddUser user) next h = with_user p is user 0 (ap (λ given. first_broken given p.ssd) (closed_none p.order) ∙ none_breaks p.ssd is.ssd_sets)
  separate (DeleteUser user) next h = record {
    ssd_sets = is.ssd_sets;
    dsd_sets = is.dsd_sets;
    ssd = breaking_removed (closed p.order) (bytes_eq user) p.users p.ssd is.ssd;
    dsd = breaking_filtered (λ (e : ℕ × Session). counted p.counting p.order e.1.active) (λ e. not (bytes_eq e.1.user user)) p.sessions p.dsd is.dsd;
  }
  separate (AddRole role) next h = added_role role (first_free p.order.roles)
  separate (DeleteRole role) next h =
      let slot : ℕ = slot_of p role in
      let q : PolicyState = after p (DeleteRole role) in
      lessened p is order q next (slot_within p.order slot) (kept_authorized q.users q.order) (kept_authorized_within q.users q.order) refl refl refl
      (fewer_roles q.order p.order next order (slot_within p.order slot) (λ r. without r slot) (λ r c there. without_within r slot c there) p.users) refl
  separate (AssignUser user role) next h = assigned_keeps user role h
  separate (DeassignUser user role) next h = deassigned_keeps user role
  separate (GrantPermission role operation range) next h = record { ssd_sets = is.ssd_sets; dsd_sets = is.dsd_sets; ssd = is.ssd; dsd = is.dsd }
  separate (RevokePermission role operation range) next h = record { ssd_sets = is.ssd_sets; dsd_sets = is.dsd_sets; ssd = is.ssd; dsd = is.dsd }
  separate (AddInheritance senior junior) next h = inherited_keeps senior junior h
  separate (DeleteInheritance senior junior) next h =
      let q : PolicyState = after p (DeleteInheritance senior junior) in
      lessened p is order q next (pair_within p.order (slot_of p senior) (slot_of p junior)) (kept_authorized q.users q.order) (kept_authorized_within q.users q.order) refl refl refl
      (fewer_pairs q.order p.order next order (pair_within p.order (slot_of p senior) (slot_of p junior)) p.users) refl
  separate (CreateSet kind name number roles) next h = created_keeps kind name number roles h
  separate (AddSetMember kind name role) next h = joined_keeps kind name role h
  separate (DeleteSetMember kind name role) next h = left_keeps kind name role h
  separate (DeleteSet kind name) next h =
      with_other p is kind (without_set (sets_of kind p) name) (AreSets-without_set (sets_of kind p) name (sets_kept p is kind)) (breaking-without_set (given_by kind p) (sets_of kind p) name (unbroken p is kind))
  separate (SetCardinality kind name number) next h = numbered_keeps kind name number h
  separate (CreateSession user roles) next h = record { ssd_sets = is.ssd_sets; dsd_sets = is.dsd_sets; ssd = is.ssd; dsd = opened_keeps user roles h }
  separate (DeleteSession session) next h = with_sessions p is (remove_entry (nat_eq session) p.sessions) p.last
      (breaking_removed (λ (x : Session). counted p.counting p.order x.active) (nat_eq session) p.sessions p.dsd is.dsd)
  separate (AddActiveRole session role) next h = activated_keeps session role h
  separate (DropActiveRole session role) next h = dropped_keeps session role
  separate Migrate next h = migrated_keeps p is

-- the policy after a command that was answered, refused or not
answered_keeps : (p next : PolicyState) (outcome : Outcome) (refusal : Option PolicyRefusal) → IsSeparate p → (refusal ≡ None → IsSeparate next) → IsSeparate (answered p refusal next outcome).0
answered_keeps p next outcome None is keeps = keeps refl
answered_keeps p next outcome (Some e) is keeps = is

pub separate_after : (p : PolicyState) (session : ℕ) (command : Command) → IsOrder p.order → IsOrder (after p command).order → IsSeparate p → IsSeparate (policy_after p session command)
unfolding policy_after step
separate_after p session command order next is =
    answered_keeps p (after p command) (outcome_of p command) (option_or (guard p session command) (refusal_of p command)) is
    (λ none. separate p order is command next (none_or (guard p session command) (refusal_of p command) none).1)
