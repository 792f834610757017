-- A session that is not affected by a command reaches the roles that it reached, and keeps its access.
use Rattle.std.proofs.Common.{◌≡◌, ℕ, ◌+◌, false, map, Option, Some, None, sym, refl, ap, ◌∙◌}
use Rattle.std.specs.Prelude.{nat_eq, bytes_eq}
use Rattle.std.specs.Map.{lookup}
use Rattle.std.specs.List.{list_any}
use Rattle.std.specs.Option.{option_map, option_map_or}
use Rattle.indexmap.specs.IndexMap.{insert_entry}
use Rattle.std.proofs.lemmas.Bool.{or_parts}
use Rattle.role_hierarchy.specs.Roles.{without, first_free}
use Rattle.role_hierarchy.specs.Order.{with_slot, without_pair, without_slot}
use Rattle.role_hierarchy.specs.Below.{closed}
use Rattle.role_hierarchy.specs.BelowLaws.{closed-with_slot}
use Rattle.permission_core.specs.declared.objects.Operation.{Operation}
use Rattle.permission_core.specs.declared.objects.Operation.TheVariants.{View}
use Rattle.permission_core.specs.declared.objects.Object.{Object}
use Rattle.permission_core.specs.declared.objects.Object.TheVariants.{Board}
use Rattle.policy_core.specs.declared.session.Session.{Session as ASession}
use Rattle.policy_core.specs.State.{PolicyState, held_by, slot_of, numbers_of}
use Rattle.policy_core.specs.Access.{has_access, reached_roles, reaches}
use Rattle.policy_core.specs.Commands.{activated, deactivated, deassigned, granted, inherited, kept_authorized, migrated, migrated_session, opened, revoked, role_at, role_gone, shut, slots_of, uninherited, user_gone}
use Rattle.rbac_core.specs.declared.command.Command.{Command}
use Rattle.rbac_core.specs.declared.command.Command.TheVariants.{DeleteUser, AddRole, DeleteRole, DeassignUser, GrantPermission, RevokePermission, AddInheritance, DeleteInheritance, CreateSession, DeleteSession, AddActiveRole, DropActiveRole, Migrate}
use Rattle.rbac_core.specs.Step.{after}
use Rattle.rbac_core.specs.Affected.{affected_sessions}
use Rattle.rbac_core.proofs.AffectedLaws.{access_is, same_sessions, with_slot_access, nowhere, absent, lookup-mapped, numbers-mapped, kept_found, left_found, lookup-other, lookup-removed, same_active, migrated_active}

module _ (p : PolicyState) (at : ℕ) (doing : Operation) (what : Object) where
  pub stays : (command : Command) → list_any (nat_eq at) (affected_sessions p command (after p command)) ≡ false → has_access (after p command) at doing what ≡ has_access p at doing what
  unfolding reaches
  stays (DeleteUser user) none = same_sessions p (user_gone p user) at doing what (λ found. refl) (left_found p at doing what user none)
  stays (AddRole role) none = by (first_free p.order.roles)
    where
      by : (slot : Option ℕ) → has_access (option_map_or (role_at p role) slot p) at doing what ≡ has_access p at doing what
      by None = refl
      by (Some slot) = same_sessions p (role_at p role slot) at doing what (with_slot_access p (insert_entry bytes_eq p.roles role slot) slot doing what) refl
  stays (DeleteRole role) none = nowhere p at doing what (role_gone p role) (numbers-mapped (kept_authorized (map (λ u. (u.0, without u.1 (slot_of p role))) p.users) (without_slot p.order (slot_of p role))) p.sessions) none
  stays (DeassignUser user role) none = same_sessions p (deassigned p user role) at doing what (λ found. refl) (kept_found p at doing what user (closed p.order (without (held_by p user) (slot_of p role))) none)
  stays (GrantPermission role operation range) none = nowhere p at doing what (granted p role operation range) refl none
  stays (RevokePermission role operation range) none = nowhere p at doing what (revoked p role operation range) refl none
  stays (AddInheritance senior junior) none = nowhere p at doing what (inherited p senior junior) refl none
  stays (DeleteInheritance senior junior) none = nowhere p at doing what (uninherited p senior junior) (numbers-mapped (kept_authorized p.users (without_pair p.order (slot_of p senior) (slot_of p junior))) p.sessions) none
  stays (CreateSession user roles) none = same_sessions p (opened p user roles) at doing what (λ found. refl) (lookup-other at (p.last + 1) (record { user = user; active = slots_of p roles }) p.sessions (or_parts _ _ none).0)
  stays (DeleteSession number) none = same_sessions p (shut p number) at doing what (λ found. refl) (lookup-removed at number p.sessions (or_parts _ _ none).0)
  stays (AddActiveRole number role) none = same_sessions p (activated p number role) at doing what (λ found. refl) (lookup-other at number _ p.sessions (or_parts _ _ none).0)
  stays (DropActiveRole number role) none = same_sessions p (deactivated p number role) at doing what (λ found. refl) (lookup-other at number _ p.sessions (or_parts _ _ none).0)
  stays Migrate none =
      let k : ASession → ASession = migrated_session p.order p.dsd in
      access_is (migrated p) at doing what
      ∙ same_active p at doing what k (migrated_active p at doing what (migrated p) k refl none)
      ∙ sym (access_is p at doing what)
  stays command none = same_sessions p (after p command) at doing what (λ found. refl) refl

-- what a session that is found reaches
abbrev below_found : PolicyState → Option ASession → Option ℕ
below_found p found = option_map (λ s. closed p.order s.active) found

module _ (p : PolicyState) (at : ℕ) where
  -- a session that is in neither policy
  reach_nowhere : (q : PolicyState) → numbers_of q.sessions ≡ numbers_of p.sessions → list_any (nat_eq at) (numbers_of q.sessions) ≡ false → reached_roles q at ≡ reached_roles p at
  reach_nowhere q same none =
      ap (below_found q) (absent at q.sessions none)
      ∙ sym (ap (below_found p) (absent at p.sessions (ap (list_any (nat_eq at)) (sym same) ∙ none)))

  -- a new role is in no pair
  reach_with_slot : (slot : ℕ) (found : Option ASession) → option_map (λ s. closed (with_slot p.order slot) s.active) found ≡ below_found p found
  reach_with_slot slot None = refl
  reach_with_slot slot (Some s) = ap Some (closed-with_slot p.order slot s.active)

  -- a session that keeps its active roles
  reach_mapped : (k : ASession → ASession) → ((s : ASession) → lookup (nat_eq at) p.sessions ≡ Some s → s.active ≡ (k s).active) →
      below_found p (lookup (nat_eq at) (map (λ e. (e.0, k e.1)) p.sessions)) ≡ reached_roles p at
  reach_mapped k same = ap (below_found p) (lookup-mapped k at p.sessions) ∙ by (lookup (nat_eq at) p.sessions) refl
    where
      by : (found : Option ASession) → lookup (nat_eq at) p.sessions ≡ found → below_found p (option_map k found) ≡ below_found p found
      by None h = refl
      by (Some s) h = ap (λ active. Some (closed p.order active)) (sym (same s h))

  pub reach_stays : (command : Command) → list_any (nat_eq at) (affected_sessions p command (after p command)) ≡ false → reached_roles (after p command) at ≡ reached_roles p at
  reach_stays (DeleteUser user) none = ap (below_found p) (left_found p at View Board user none)
  reach_stays (AddRole role) none = by (first_free p.order.roles)
    where
      by : (slot : Option ℕ) → reached_roles (option_map_or (role_at p role) slot p) at ≡ reached_roles p at
      by None = refl
      by (Some slot) = reach_with_slot slot (lookup (nat_eq at) p.sessions)
  reach_stays (DeleteRole role) none = reach_nowhere (role_gone p role) (numbers-mapped (kept_authorized (map (λ u. (u.0, without u.1 (slot_of p role))) p.users) (without_slot p.order (slot_of p role))) p.sessions) none
  reach_stays (DeassignUser user role) none = ap (below_found p) (kept_found p at View Board user (closed p.order (without (held_by p user) (slot_of p role))) none)
  reach_stays (AddInheritance senior junior) none = reach_nowhere (inherited p senior junior) refl none
  reach_stays (DeleteInheritance senior junior) none = reach_nowhere (uninherited p senior junior) (numbers-mapped (kept_authorized p.users (without_pair p.order (slot_of p senior) (slot_of p junior))) p.sessions) none
  reach_stays (CreateSession user roles) none = ap (below_found p) (lookup-other at (p.last + 1) (record { user = user; active = slots_of p roles }) p.sessions (or_parts _ _ none).0)
  reach_stays (DeleteSession number) none = ap (below_found p) (lookup-removed at number p.sessions (or_parts _ _ none).0)
  reach_stays (AddActiveRole number role) none = ap (below_found p) (lookup-other at number _ p.sessions (or_parts _ _ none).0)
  reach_stays (DropActiveRole number role) none = ap (below_found p) (lookup-other at number _ p.sessions (or_parts _ _ none).0)
  reach_stays Migrate none =
      let k : ASession → ASession = migrated_session p.order p.dsd in
      reach_mapped k (migrated_active p at View Board (migrated p) k refl none)
  reach_stays command none = refl
