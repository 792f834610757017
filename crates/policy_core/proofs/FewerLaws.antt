-- Fewer roles: users are authorized for fewer, and sessions keep what is left.
use Rattle.std.proofs.Common.{◌≡◌, ◌≢◌, ◌≤◌, ℕ, Bool, true, false, cond, not, ◌&&◌, inl, inr, List, length, Option, Some, None, map, sym, refl, ap, ◌∙◌, arith}
use Rattle.std.specs.Prelude.{unwrap_or, bytes_eq, is_some}
use Rattle.std.specs.List.{list_any}
use Rattle.std.specs.Map.{lookup}
use Rattle.std.proofs.lemmas.Bool.{cases_eq, ne_eqb}
use Rattle.role_hierarchy.specs.Roles.{has, without}
use Rattle.role_hierarchy.specs.Order.{Order, stands, is_there, role_count}
use Rattle.role_hierarchy.specs.Below.{closed, IsOrder}
use Rattle.role_hierarchy.specs.RoleLaws.{has-bit_and, has-empty, has-without}
use Rattle.separation_core.specs.Groups.{AreSets, is_in_some, first_breaking, first_broken}
use Rattle.permission_core.specs.Permissions.{Rows, row_at, rows_cleared}
use Rattle.policy_core.specs.declared.session.Session.{Session}
use Rattle.policy_core.specs.declared.session.Counting.TheVariants.{Inherited}
use Rattle.policy_core.specs.State.{PolicyState, IsPolicy, AreBare, HasSlots, authorized, counted, counted_all, numbers_of, rise}
use Rattle.policy_core.specs.Commands.{kept_authorized, migrated_session}
use Rattle.policy_core.specs.KeptLaws.{Keeps, kept_authorized_within, fewer_counted, migrated_sets}
use Rattle.policy_core.specs.BreakLaws.{AreFewer, breaking_fewer}
use Rattle.policy_core.proofs.EntryLaws.{length-changed}
use Rattle.policy_core.proofs.FreeLaws.{none_changed, none_made, none_found, fewer_none, alone_none, bare_sessions, rows_bare, without_none, without_itself}
use Rattle.policy_core.proofs.NumberLaws.{numbers-mapped}

-- sessions that keep some of their active roles break no set that held before
pub narrowed_sessions : (p : PolicyState) → IsPolicy p → IsOrder p.order → (k : Session → Session) → Keeps k → (sessions : List (ℕ × Session)) → sessions ≡ map (λ e. (e.0, k e.1)) p.sessions → IsPolicy (record p { sessions = sessions })
narrowed_sessions p is order k keeps sessions kept = record {
  ssd = is.ssd;
  dsd = ap (λ (xs : List (ℕ × Session)). first_breaking (map (λ e. counted p.counting p.order e.1.active) xs) p.dsd) kept
      ∙ breaking_fewer _ (counted_all p) p.dsd (fewer_counted p.counting p.order p.order order order (λ a b h. h) k keeps p.sessions) is.dsd;
  slots = is.slots;
  numbers = ap (λ xs. rise 0 p.last (numbers_of xs)) kept ∙ ap (rise 0 p.last) (numbers-mapped k p.sessions) ∙ is.numbers;
  few_customers = is.few_customers;
  few_vehicles = is.few_vehicles;
  few_users = is.few_users;
  few_sessions = omega (arith, is.few_sessions, ap length kept, length-changed k p.sessions);
  free = λ slot f. bare_sessions p.grants p.users p.sessions p.ssd p.dsd slot (is.free slot f) sessions (ap (list_any (λ (e : ℕ × Session). has e.1.active slot)) kept ∙ none_changed (λ (s : Session). has s.active slot) k (λ s none. fewer_none (k s).active s.active slot (keeps s) none) p.sessions (is.free slot f).sessions);
  count = is.count;
}

-- fewer pairs, users with fewer roles, and sessions that keep what is left
pub narrowed_whole : (p : PolicyState) → IsPolicy p → IsOrder p.order → (users : List (List ℕ × ℕ)) (roles : List (List ℕ × ℕ)) (order : Order) (grants : Rows) (sessions : List (ℕ × Session)) →
    IsOrder order → ((a b : ℕ) → stands order a b ≡ true → stands p.order a b ≡ true) → AreFewer (map (λ u. closed order u.1) users) (authorized p) → HasSlots roles order.roles → length users ≤ 1024 → ((slot : ℕ) → is_there order slot ≡ false → AreBare grants users sessions p.ssd p.dsd slot) → length roles ≡ role_count order →
    sessions ≡ map (λ e. (e.0, kept_authorized users order e.1)) p.sessions →
    IsPolicy (record p { users = users; roles = roles; order = order; grants = grants; sessions = sessions })
narrowed_whole p is was users roles order grants sessions is_order within fewer slots few_users free count kept = record {
  ssd = breaking_fewer (map (λ u. closed order u.1) users) (authorized p) p.ssd fewer is.ssd;
  dsd = ap (λ (xs : List (ℕ × Session)). first_breaking (map (λ e. counted p.counting order e.1.active) xs) p.dsd) kept
      ∙ breaking_fewer _ (counted_all p) p.dsd (fewer_counted p.counting order p.order is_order was within (kept_authorized users order) (kept_authorized_within users order) p.sessions) is.dsd;
  slots = slots;
  numbers = ap (λ xs. rise 0 p.last (numbers_of xs)) kept ∙ ap (rise 0 p.last) (numbers-mapped (kept_authorized users order) p.sessions) ∙ is.numbers;
  few_customers = is.few_customers;
  few_vehicles = is.few_vehicles;
  few_users = few_users;
  few_sessions = omega (arith, is.few_sessions, ap length kept, length-changed (kept_authorized users order) p.sessions);
  free = free;
  count = count;
}

-- sessions that keep what is authorized have no more of a role
pub authorized_none : (users : List (List ℕ × ℕ)) (order : Order) (slot : ℕ) (old sessions : List (ℕ × Session)) → sessions ≡ map (λ e. (e.0, kept_authorized users order e.1)) old →
    list_any (λ (e : ℕ × Session). has e.1.active slot) old ≡ false → list_any (λ (e : ℕ × Session). has e.1.active slot) sessions ≡ false
authorized_none users order slot old sessions kept none =
    ap (list_any (λ (e : ℕ × Session). has e.1.active slot)) kept
    ∙ none_changed (λ (s : Session). has s.active slot) (kept_authorized users order) (λ s h. fewer_none (kept_authorized users order s).active s.active slot (kept_authorized_within users order s) h) old none

-- a role that no user has and that is in no pair is active nowhere
pub alone_inactive : (users : List (List ℕ × ℕ)) (order : Order) → IsOrder order → (slot : ℕ) (old sessions : List (ℕ × Session)) → sessions ≡ map (λ e. (e.0, kept_authorized users order e.1)) old →
    list_any (λ (u : List ℕ × ℕ). has u.1 slot) users ≡ false → ((y : ℕ) → stands order y slot ≡ false) → list_any (λ (e : ℕ × Session). has e.1.active slot) sessions ≡ false
alone_inactive users order is slot old sessions kept nobody alone =
    ap (list_any (λ (e : ℕ × Session). has e.1.active slot)) kept
    ∙ none_made (λ (s : Session). has s.active slot) (kept_authorized users order) each old
  where
    held : (found : Option ℕ) (user : List ℕ) → lookup (bytes_eq user) users ≡ found → has (unwrap_or found 0) slot ≡ false
    held None user e = has-empty slot
    held (Some roles) user e = none_found (λ r. has r slot) (bytes_eq user) users roles e nobody

    each : (s : Session) → has (kept_authorized users order s).active slot ≡ false
    each s =
        has-bit_and s.active (closed order (unwrap_or (lookup (bytes_eq s.user) users) 0)) slot
        ∙ ap (λ t. has s.active slot && t) (alone_none order is (unwrap_or (lookup (bytes_eq s.user) users) 0) slot alone (held (lookup (bytes_eq s.user) users) s.user refl))
        ∙ and_none (has s.active slot)
      where
        and_none : (t : Bool) → (t && false) ≡ false
        and_none true = refl
        and_none false = refl

-- a role goes: its slot is free, and has nothing
pub role_gone_bare : (p : PolicyState) → IsPolicy p → (slot : ℕ) (order : Order) → IsOrder order → ((s : ℕ) → has order.roles s ≡ has (without p.order.roles slot) s) → ((y : ℕ) → stands order y slot ≡ false) →
    is_in_some p.ssd slot ≡ false → is_in_some p.dsd slot ≡ false → (grants : Rows) (users : List (List ℕ × ℕ)) (sessions : List (ℕ × Session)) →
    grants ≡ rows_cleared p.grants slot → users ≡ map (λ u. (u.0, without u.1 slot)) p.users → sessions ≡ map (λ e. (e.0, kept_authorized users order e.1)) p.sessions →
    (s : ℕ) → is_there order s ≡ false → AreBare grants users sessions p.ssd p.dsd s
role_gone_bare p is slot order ordered left alone no_ssd no_dsd grants users sessions cleared dropped kept s f = elim (cases_eq s slot) [
  | inl e ↦ own e
  | inr ne ↦ other ne (is.free s (before ne))
]
  where
    own : s ≡ slot → AreBare grants users sessions p.ssd p.dsd s
    own e =
        let lost : (r : ℕ) → has (without r slot) s ≡ false = λ r. ap (has (without r slot)) e ∙ without_itself r slot in
        let nobody : list_any (λ (u : List ℕ × ℕ). has u.1 s) users ≡ false = ap (list_any (λ (u : List ℕ × ℕ). has u.1 s)) dropped ∙ none_made (λ r. has r s) (λ r. without r slot) lost p.users in
        record {
          permissions = λ operation. ap (λ rows. row_at rows s operation) cleared ∙ rows_bare p.grants slot s operation (λ ne. absurd (ne e));
          users = nobody;
          sessions = alone_inactive users order ordered s p.sessions sessions kept nobody (λ y. ap (stands order y) e ∙ alone y);
          ssd = ap (is_in_some p.ssd) e ∙ no_ssd;
          dsd = ap (is_in_some p.dsd) e ∙ no_dsd;
        }

    before : s ≢ slot → has p.order.roles s ≡ false
    before ne = sym (has-without p.order.roles slot s ∙ ap (λ t. not t && has p.order.roles s) (ne_eqb s slot ne)) ∙ sym (left s) ∙ f

    other : s ≢ slot → AreBare p.grants p.users p.sessions p.ssd p.dsd s → AreBare grants users sessions p.ssd p.dsd s
    other ne b = record {
      permissions = λ operation. ap (λ rows. row_at rows s operation) cleared ∙ rows_bare p.grants slot s operation (λ _. b.permissions operation);
      users = ap (list_any (λ (u : List ℕ × ℕ). has u.1 s)) dropped ∙ none_changed (λ r. has r s) (λ r. without r slot) (λ r none. without_none r slot s none) p.users b.users;
      sessions = authorized_none users order s p.sessions sessions kept b.sessions;
      ssd = b.ssd;
      dsd = b.dsd;
    }

-- sessions that lose their active roles where what they inherit breaks a set
pub migrated_whole : (p : PolicyState) → IsPolicy p → AreSets p.dsd → (sessions : List (ℕ × Session)) → sessions ≡ map (λ e. (e.0, migrated_session p.order p.dsd e.1)) p.sessions → IsPolicy (record p { counting = Inherited; sessions = sessions })
migrated_whole p is are sessions kept = record {
  ssd = is.ssd;
  dsd = ap (λ (xs : List (ℕ × Session)). first_breaking (map (λ e. closed p.order e.1.active) xs) p.dsd) kept ∙ migrated_sets p.order p.dsd are p.sessions;
  slots = is.slots;
  numbers = ap (λ xs. rise 0 p.last (numbers_of xs)) kept ∙ ap (rise 0 p.last) (numbers-mapped (migrated_session p.order p.dsd) p.sessions) ∙ is.numbers;
  few_customers = is.few_customers;
  few_vehicles = is.few_vehicles;
  few_users = is.few_users;
  few_sessions = omega (arith, is.few_sessions, ap length kept, length-changed (migrated_session p.order p.dsd) p.sessions);
  free = λ slot f. bare_sessions p.grants p.users p.sessions p.ssd p.dsd slot (is.free slot f) sessions (ap (list_any (λ (e : ℕ × Session). has e.1.active slot)) kept ∙ none_changed (λ (s : Session). has s.active slot) (migrated_session p.order p.dsd) (fewer slot) p.sessions (is.free slot f).sessions);
  count = is.count;
}
  where
    fewer : (slot : ℕ) (s : Session) → has s.active slot ≡ false → has (migrated_session p.order p.dsd s).active slot ≡ false
    fewer slot s none = elim (is_some (first_broken (closed p.order s.active) p.dsd)) as (λ t. has (cond t (record s { active = 0 }) s).active slot ≡ false) [
      | true ↦ has-empty slot
      | false ↦ none
    ]
