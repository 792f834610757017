-- Authorization as it is computed, and by chains.
use Rattle.std.proofs.Common.{◌≡◌, ◌<◌, ◌↔◌, ℕ, Bool, true, false, cond, not, ◌&&◌, List, [], ◌∷◌, map, Option, Some, None, sym, refl, ap, subst, ◌∙◌}
use Rattle.std.specs.Prelude.{nat_eq, bytes_eq, unwrap_or, bit_and}
use Rattle.std.specs.List.{list_all}
use Rattle.std.specs.Map.{lookup, remove_entry}
use Rattle.std.specs.Option.{option_or, option_map}
use Rattle.indexmap.specs.IndexMap.{insert_entry}
use Rattle.std.proofs.lemmas.Bool.{false≢true, true≢false, and_parts, and_from}
use Rattle.std.proofs.lemmas.Slice.Eq.{bytes_eq-Decides}
use Rattle.role_hierarchy.specs.Roles.{has, is_within, without}
use Rattle.role_hierarchy.specs.RoleLaws.{has-bit_and, is_within-each, each-is_within}
use Rattle.role_hierarchy.specs.Order.{stands, without_pair, without_slot}
use Rattle.role_hierarchy.specs.Below.{closed, juniors_of, IsOrder}
use Rattle.role_hierarchy.specs.BelowLaws.{has-closed, same_closed, has-juniors_of}
use Rattle.permission_core.specs.Permissions.{rows_cleared}
use Rattle.policy_core.specs.declared.refusal.Refusal.{Refusal}
use Rattle.policy_core.specs.declared.refusal.Refusal.TheVariants.{NoUser, NoRole, Already, NotThere, NotAuthorized, Cycle, Full, Ssd, Dsd}
use Rattle.policy_core.specs.declared.session.Session.{Session}
use Rattle.policy_core.specs.declared.session.Counting.{Counting}
use Rattle.policy_core.specs.declared.session.Counting.TheVariants.{Active, Inherited}
use Rattle.policy_core.specs.State.{PolicyState, is_session, session_of, is_user, is_role, held_by, slot_of, with_roles, counted}
use Rattle.policy_core.specs.Commands.{authorized_for, activate_refusal, open_refusal, slots_of, inherit_refusal, kept_authorized, kept_session, narrowed, narrowed_all, deassigned, uninherited, role_gone}
use Rattle.policy_core.specs.Authority.{AreBelow, AreCounted, IsAuthorized, IsNotAuthorizedToActivate, IsNotAuthorizedToOpen, IsCycle, KeepsAuthorized, KeepsAuthorizedOf}

-- whether a command is refused as not authorized, or as a cycle
abbrev is_unauthorized : Option Refusal → Bool
is_unauthorized (Some NotAuthorized) = true
is_unauthorized o = false

abbrev is_cycle : Option Refusal → Bool
is_cycle (Some Cycle) = true
is_cycle o = false

module _ (p : PolicyState) (is : IsOrder p.order) where
  pub below : (roles : ℕ) → AreBelow p roles (closed p.order roles)
  below roles = has-closed p.order is roles

  pub one_below : (roles below : ℕ) → AreBelow p roles below → below ≡ closed p.order roles
  one_below roles below each = same_closed p.order is roles below each

  pub authorized : (user : List ℕ) (role : ℕ) → (has (authorized_for p user) role ≡ true) ↔ IsAuthorized p user role
  authorized user role = has-closed p.order is (held_by p user) role

  pub one_counted : (counting : Counting) (active given : ℕ) → AreCounted p counting active given → given ≡ counted counting p.order active
  one_counted Active active given each = each
  one_counted Inherited active given each = one_below active given each

  not_by_test : (user : List ℕ) (role : ℕ) → has (authorized_for p user) role ≡ false → ¬ IsAuthorized p user role
  not_by_test user role h chain = false≢true (sym h ∙ (authorized user role).1 chain)

  by_no_chain : (user : List ℕ) (role : ℕ) → ¬ IsAuthorized p user role → has (authorized_for p user) role ≡ false
  by_no_chain user role none = by (has (authorized_for p user) role) refl
    where
      by : (t : Bool) → has (authorized_for p user) role ≡ t → has (authorized_for p user) role ≡ false
      by false e = e
      by true e = absurd (none ((authorized user role).0 e))

  -- the tests of AddActiveRole, in their order
  activating : (a here active allowed : Bool) (found : Option (List ℕ)) →
      (cond (not a) (Some NoRole) (cond (here && active) (Some Already) (cond (not here) (Some NotThere) (cond (not allowed) (Some NotAuthorized) (option_map Dsd found)))) ≡ Some NotAuthorized)
      → (a ≡ true) × (here ≡ true) × (active ≡ false) × (allowed ≡ false)
  activating false here active allowed found h = absurd (false≢true (ap is_unauthorized h))
  activating true true true allowed found h = absurd (false≢true (ap is_unauthorized h))
  activating true false active allowed found h = absurd (false≢true (ap is_unauthorized h))
  activating true true false false found h = (refl, refl, refl, refl)
  activating true true false true None h = absurd (false≢true (ap is_unauthorized h))
  activating true true false true (Some name) h = absurd (false≢true (ap is_unauthorized h))

  activating_back : (a here active allowed : Bool) (rest : Option Refusal) → a ≡ true → here ≡ true → active ≡ false → allowed ≡ false →
      cond (not a) (Some NoRole) (cond (here && active) (Some Already) (cond (not here) (Some NotThere) (cond (not allowed) (Some NotAuthorized) rest))) ≡ Some NotAuthorized
  activating_back true true false false rest e0 e1 e2 e3 = refl
  activating_back false here active allowed rest e0 e1 e2 e3 = absurd (false≢true e0)
  activating_back true false active allowed rest e0 e1 e2 e3 = absurd (false≢true e1)
  activating_back true true true allowed rest e0 e1 e2 e3 = absurd (true≢false e2)
  activating_back true true false true rest e0 e1 e2 e3 = absurd (true≢false e3)

  pub activate_by_chains : (number : ℕ) (role : List ℕ) → (activate_refusal p number role ≡ Some NotAuthorized) ↔ IsNotAuthorizedToActivate p number role
  unfolding activate_refusal
  activate_by_chains number role =
      let s = session_of p number in
      let slot = slot_of p role in (
        (λ h.
            let r = activating (is_role p role) (is_session p number) (has s.active slot) (has (authorized_for p s.user) slot) _ h in
            record { role_there = r.0; there = r.1; inactive = r.2; unauthorized = not_by_test s.user slot r.3 }),
        (λ r. activating_back (is_role p role) (is_session p number) (has s.active slot) (has (authorized_for p s.user) slot) _ r.role_there r.there r.inactive (by_no_chain s.user slot r.unauthorized)),
      )

  -- the tests of CreateSession, in their order
  opening : (a b allowed full : Bool) (found : Option (List ℕ)) →
      (cond (not a) (Some NoUser) (cond (not b) (Some NoRole) (cond (not allowed) (Some NotAuthorized) (option_or (option_map Dsd found) (cond full (Some Full) None)))) ≡ Some NotAuthorized)
      → (a ≡ true) × (b ≡ true) × (allowed ≡ false)
  opening false b allowed full found h = absurd (false≢true (ap is_unauthorized h))
  opening true false allowed full found h = absurd (false≢true (ap is_unauthorized h))
  opening true true false full found h = (refl, refl, refl)
  opening true true true true None h = absurd (false≢true (ap is_unauthorized h))
  opening true true true false None h = absurd (false≢true (ap is_unauthorized h))
  opening true true true full (Some name) h = absurd (false≢true (ap is_unauthorized h))

  opening_back : (a b allowed : Bool) (rest : Option Refusal) → a ≡ true → b ≡ true → allowed ≡ false →
      cond (not a) (Some NoUser) (cond (not b) (Some NoRole) (cond (not allowed) (Some NotAuthorized) rest)) ≡ Some NotAuthorized
  opening_back true true false rest e0 e1 e2 = refl
  opening_back false b allowed rest e0 e1 e2 = absurd (false≢true e0)
  opening_back true false allowed rest e0 e1 e2 = absurd (false≢true e1)
  opening_back true true true rest e0 e1 e2 = absurd (true≢false e2)

  pub open_by_chains : (user : List ℕ) (roles : List (List ℕ)) → (open_refusal p user roles ≡ Some NotAuthorized) ↔ IsNotAuthorizedToOpen p user roles
  unfolding open_refusal
  open_by_chains user roles =
      let set = slots_of p roles in
      let allowed = is_within set (authorized_for p user) in (
        (λ h.
            let r = opening (is_user p user) (list_all (is_role p) roles) allowed _ _ h in
            record {
              user_there = r.0;
              roles_there = r.1;
              unauthorized = λ each. false≢true (sym r.2 ∙ each-is_within set (authorized_for p user) (λ q in_set. (authorized user q).1 (each q in_set)));
            }),
        (λ r. opening_back (is_user p user) (list_all (is_role p) roles) allowed _ r.user_there r.roles_there (outside set user r.unauthorized)),
      )
    where
      outside : (set : ℕ) (user : List ℕ) → ¬ ((slot : ℕ) → has set slot ≡ true → IsAuthorized p user slot) → is_within set (authorized_for p user) ≡ false
      outside set user none = by (is_within set (authorized_for p user)) refl
        where
          by : (t : Bool) → is_within set (authorized_for p user) ≡ t → is_within set (authorized_for p user) ≡ false
          by false e = e
          by true e = absurd (none (λ q in_set. (authorized user q).0 (is_within-each set (authorized_for p user) e q in_set)))

  -- the tests of AddInheritance, in their order
  inheriting : (a b pair above : Bool) (ssd dsd : Option (List ℕ)) →
      (cond (not a) (Some NoRole) (cond (not b) (Some NoRole) (cond pair (Some Already) (cond above (Some Cycle) (option_or (option_map Ssd ssd) (option_map Dsd dsd))))) ≡ Some Cycle)
      → (a ≡ true) × (b ≡ true) × (pair ≡ false) × (above ≡ true)
  inheriting false b pair above ssd dsd h = absurd (false≢true (ap is_cycle h))
  inheriting true false pair above ssd dsd h = absurd (false≢true (ap is_cycle h))
  inheriting true true true above ssd dsd h = absurd (false≢true (ap is_cycle h))
  inheriting true true false true ssd dsd h = (refl, refl, refl, refl)
  inheriting true true false false (Some name) dsd h = absurd (false≢true (ap is_cycle h))
  inheriting true true false false None (Some name) h = absurd (false≢true (ap is_cycle h))
  inheriting true true false false None None h = absurd (false≢true (ap is_cycle h))

  inheriting_back : (a b pair above : Bool) (rest : Option Refusal) → a ≡ true → b ≡ true → pair ≡ false → above ≡ true →
      cond (not a) (Some NoRole) (cond (not b) (Some NoRole) (cond pair (Some Already) (cond above (Some Cycle) rest))) ≡ Some Cycle
  inheriting_back true true false true rest e0 e1 e2 e3 = refl
  inheriting_back false b pair above rest e0 e1 e2 e3 = absurd (false≢true e0)
  inheriting_back true false pair above rest e0 e1 e2 e3 = absurd (false≢true e1)
  inheriting_back true true true above rest e0 e1 e2 e3 = absurd (true≢false e2)
  inheriting_back true true false false rest e0 e1 e2 e3 = absurd (false≢true e3)

  pub cycle_by_chains : (senior junior : List ℕ) → slot_of p junior < 256 → (inherit_refusal p senior junior ≡ Some Cycle) ↔ IsCycle p senior junior
  unfolding inherit_refusal
  cycle_by_chains senior junior small =
      let s = slot_of p senior in
      let j = slot_of p junior in (
        (λ h.
            let r = inheriting (is_role p senior) (is_role p junior) (stands p.order s j) (has (juniors_of p.order j) s) _ _ h in
            record { senior_there = r.0; junior_there = r.1; new = r.2; chain = (has-juniors_of p.order is j s small).0 r.3 }),
        (λ r. inheriting_back (is_role p senior) (is_role p junior) (stands p.order s j) (has (juniors_of p.order j) s) _ r.senior_there r.junior_there r.new ((has-juniors_of p.order is j s small).1 r.chain)),
      )

-- a session that is found, after all sessions are changed
found_changed : (k : Session → Session) (number : ℕ) (es : List (ℕ × Session)) (s : Session) → lookup (nat_eq number) es ≡ Some s → lookup (nat_eq number) (map (λ e. (e.0, k e.1)) es) ≡ Some (k s)
found_changed k number [] s h = cc
found_changed k number (e ∷ es) s h = by (nat_eq number e.0) h (λ later. found_changed k number es s later)
  where
    by : (b : Bool) → cond b (Some e.1) (lookup (nat_eq number) es) ≡ Some s → (lookup (nat_eq number) es ≡ Some s → lookup (nat_eq number) (map (λ x. (x.0, k x.1)) es) ≡ Some (k s)) →
        cond b (Some (k e.1)) (lookup (nat_eq number) (map (λ x. (x.0, k x.1)) es)) ≡ Some (k s)
    by true is rest = (let same : e.1 ≡ s = cc in ap (λ x. Some (k x)) same)
    by false is rest = rest is

-- sessions that keep the roles for which their users are authorized
pub narrowed_all_by_chains : (p : PolicyState) → IsOrder p.order → KeepsAuthorized p (narrowed_all p)
narrowed_all_by_chains p is number s there role =
    let k : Session → Session = kept_authorized p.users p.order in
    let found : session_of (narrowed_all p) number ≡ k s = ap (λ o. unwrap_or o (record { user = []; active = 0 })) (found_changed k number p.sessions s there) in
    let active : has (session_of (narrowed_all p) number).active role ≡ (has s.active role && has (authorized_for p s.user) role) =
    ap (λ (x : Session). has x.active role) found ∙ has-bit_and s.active (authorized_for p s.user) role in (
      (λ h. let parts = and_parts _ _ (sym active ∙ h) in (parts.0, (authorized p is s.user role).0 parts.1)),
      (λ h. active ∙ and_from _ _ h.0 ((authorized p is s.user role).1 h.1)),
    )

-- the same where the state before differs in all but the sessions
pub narrowed_by_chains : (old p new : PolicyState) → p.sessions ≡ old.sessions → IsOrder new.order → new ≡ narrowed_all p → KeepsAuthorized old new
narrowed_by_chains old p new sessions is same number s there role =
    let order : IsOrder p.order = subst (λ (q : PolicyState). IsOrder q.order) same is in
    let here : lookup (nat_eq number) p.sessions ≡ Some s = ap (lookup (nat_eq number)) sessions ∙ there in
    let P : PolicyState → Type 0 = λ q. (has (session_of q number).active role ≡ true) ↔ ((has s.active role ≡ true) × IsAuthorized q s.user role) in
    subst P (sym same) (narrowed_all_by_chains p order number s here role)

-- the sessions of one user keep the roles for which it is authorized
pub narrowed_of_by_chains : (p new : PolicyState) (user : List ℕ) → IsOrder new.order → new ≡ narrowed p user (authorized_for p user) → KeepsAuthorizedOf user p new
narrowed_of_by_chains p new user is same number s there role =
    let order : IsOrder p.order = subst (λ (q : PolicyState). IsOrder q.order) same is in
    let k : Session → Session = kept_session user (authorized_for p user) in
    let next : PolicyState = narrowed p user (authorized_for p user) in
    let found : session_of next number ≡ k s = ap (λ o. unwrap_or o (record { user = []; active = 0 })) (found_changed k number p.sessions s there) in
    let P : PolicyState → Type 0 = λ q. (has (session_of q number).active role ≡ true) ↔ ((has s.active role ≡ true) × (s.user ≡ user → IsAuthorized q s.user role)) in
    subst P (sym same) (
      (λ h. (let w = sym (ap (λ (x : Session). has x.active role) found) ∙ h in kept order (bytes_eq s.user user) refl w)),
      (λ h. ap (λ (x : Session). has x.active role) found ∙ back order (bytes_eq s.user user) refl h),
    )
  where
    name : (t : Bool) → bytes_eq s.user user ≡ t → t ≡ true → s.user ≡ user
    name t e h = (bytes_eq-Decides s.user user).0 (e ∙ h)

    kept : IsOrder p.order → (t : Bool) → bytes_eq s.user user ≡ t → has (cond t (record s { active = bit_and s.active (authorized_for p user) }) s).active role ≡ true →
        (has s.active role ≡ true) × (s.user ≡ user → IsAuthorized p s.user role)
    kept order true e h =
        let parts = and_parts _ _ (sym (has-bit_and s.active (authorized_for p user) role) ∙ h) in
        (parts.0, (λ same_user. subst (λ u. IsAuthorized p u role) (sym same_user) ((authorized p order user role).0 parts.1)))
    kept order false e h = (h, (λ same_user. absurd (false≢true (sym e ∙ (bytes_eq-Decides s.user user).1 same_user))))

    back : IsOrder p.order → (t : Bool) → bytes_eq s.user user ≡ t → (has s.active role ≡ true) × (s.user ≡ user → IsAuthorized p s.user role) →
        has (cond t (record s { active = bit_and s.active (authorized_for p user) }) s).active role ≡ true
    back order true e h =
        let same_user = name true e refl in
        has-bit_and s.active (authorized_for p user) role ∙ and_from _ _ h.0 ((authorized p order user role).1 (subst (λ u. IsAuthorized p u role) same_user (h.1 same_user)))
    back order false e h = h.0

-- what was put under a name is found under it
found_put : (user : List ℕ) (roles : ℕ) (users : List (List ℕ × ℕ)) → lookup (bytes_eq user) (insert_entry bytes_eq users user roles) ≡ Some roles
found_put user roles [] = ap (λ t. cond t (Some roles) None) ((bytes_eq-Decides user user).1 refl)
found_put user roles (e ∷ users) = by (bytes_eq user e.0) refl (found_put user roles users)
  where
    by : (t : Bool) → bytes_eq user e.0 ≡ t → lookup (bytes_eq user) (insert_entry bytes_eq users user roles) ≡ Some roles →
        lookup (bytes_eq user) (cond t ((e.0, roles) ∷ users) (e ∷ insert_entry bytes_eq users user roles)) ≡ Some roles
    by true is rest = ap (λ t. cond t (Some roles) (lookup (bytes_eq user) users)) is
    by false is rest = ap (λ t. cond t (Some e.1) (lookup (bytes_eq user) (insert_entry bytes_eq users user roles))) is ∙ rest

pub deassigned_by_chains : (old new : PolicyState) → IsOrder new.order → (user role : List ℕ) → new ≡ deassigned old user role → KeepsAuthorizedOf user old new
deassigned_by_chains old new is user role same =
    let left : ℕ = without (held_by old user) (slot_of old role) in
    let p : PolicyState = with_roles old user left in
    let allowed : closed old.order left ≡ authorized_for p user = ap (λ o. closed old.order (unwrap_or o 0)) (sym (found_put user left old.users)) in
    narrowed_of_by_chains p new user is (same ∙ ap (narrowed p user) allowed)

pub uninherited_by_chains : (old new : PolicyState) → IsOrder new.order → (senior junior : List ℕ) → new ≡ uninherited old senior junior → KeepsAuthorized old new
uninherited_by_chains old new is senior junior same =
    narrowed_by_chains old (record old { order = without_pair old.order (slot_of old senior) (slot_of old junior) }) new refl is same

pub deleted_by_chains : (old new : PolicyState) → IsOrder new.order → (role : List ℕ) → new ≡ role_gone old role → KeepsAuthorized old new
deleted_by_chains old new is role same =
    let slot : ℕ = slot_of old role in
    let p : PolicyState = record old {
      users = map (λ u. (u.0, without u.1 slot)) old.users;
      roles = remove_entry (bytes_eq role) old.roles;
      order = without_slot old.order slot;
      grants = rows_cleared old.grants slot;
    } in
    narrowed_by_chains old p new refl is same
