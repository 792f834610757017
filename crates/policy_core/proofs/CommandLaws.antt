-- What the commands' judgements say of the whole policy.
use Rattle.std.proofs.Common.{◌≡◌, ◌≤◌, ◌<◌, ◌+◌, ℕ, Bool, true, false, List, length, filter, not, Option, Some, None, sym, refl, subst, ap, ap₂, ◌∙◌, arith}
use Rattle.std.specs.Prelude.{bytes_eq, nat_eq, is_some, unwrap_or, count_ones}
use Rattle.std.specs.List.{list_all}
use Rattle.std.specs.Option.{option_map, option_or}
use Rattle.indexmap.specs.IndexMap.{insert_entry}
use Rattle.std.specs.Map.{lookup, remove_entry}
use Rattle.std.proofs.lemmas.Bool.{or_parts, false≢true}
use Rattle.role_hierarchy.specs.Roles.{has, with_role, without}
use Rattle.role_hierarchy.specs.Order.{Order, with_slot, with_pair, is_there, role_count}
use Rattle.role_hierarchy.specs.Below.{closed, IsOrder}
use Rattle.role_hierarchy.specs.RoleLaws.{has-with_role, has-empty}
use Rattle.role_hierarchy.specs.BelowLaws.{closed_fewer, closed-with_slot}
use Rattle.separation_core.specs.Groups.{AreSets, Groups, first_broken, first_breaking}
use Rattle.separation_core.specs.GroupLaws.{first_broken-fewer}
use Rattle.permission_core.specs.declared.objects.Operation.{Operation}
use Rattle.permission_core.specs.Permissions.{Rows, row_at, row_set}
use Rattle.policy_core.specs.declared.refusal.Refusal.TheVariants.{Ssd, Dsd}
use Rattle.policy_core.specs.declared.session.Session.{Session}
use Rattle.policy_core.specs.State.{HasSlots, PolicyState, IsPolicy, AreThere, no_policy, authorized, counted, rise, broken_ssd, broken_dsd, with_roles, with_session, is_session, is_user, is_role, held_by, slot_of, broken}
use Rattle.policy_core.specs.Commands.{slots_of}
use Rattle.policy_core.specs.KeptLaws.{none_mapped, without_within, same_authorized, same_counted}
use Rattle.policy_core.specs.BreakLaws.{breaking_inserted, broken_at, breaking_removed, breaking_filtered, closed_none, none_breaks}
use Rattle.policy_core.specs.CountLaws.{counted_fewer, counted-with_slot}
use lib.Count.{ones-le}
use Rattle.policy_core.proofs.EntryLaws.{length-inserted, length-present, length-removed, length-kept}
use Rattle.policy_core.proofs.FreeLaws.{with_none, without_none, apart_slots, none_found, named_there, row_other, bare_rows, none_inserted, none_removed, none_kept, no_rows_bare, bare_users, bare_sessions}
use Rattle.policy_core.proofs.NumberLaws.{numbers-present, rise-removed, rise-filter, rise-opened}

-- what DSD counts of a session
abbrev pub counted_of : PolicyState → Session → ℕ
counted_of p s = counted p.counting p.order s.active

module _ (p now : PolicyState) (same : p ≡ now) (is : IsPolicy p) where
  -- the one user whose roles change is judged for all
  pub roles_judged : (user : List ℕ) (roles : ℕ) (found : Option (List ℕ)) → found ≡ first_broken (closed p.order roles) p.ssd → option_map Ssd found ≡ broken_ssd (with_roles now user roles)
  roles_judged user roles found h =
      let P : PolicyState → Type 0 = λ s. option_map Ssd found ≡ broken_ssd (with_roles s user roles) in
      subst P same (ap (option_map Ssd) (h ∙ sym (breaking_inserted (closed p.order) bytes_eq user roles p.users p.ssd is.ssd)))

  whole_user : (user : List ℕ) → AreSets p.ssd → first_breaking (authorized (with_roles p user 0)) p.ssd ≡ None
  whole_user user are = breaking_inserted (closed p.order) bytes_eq user 0 p.users p.ssd is.ssd ∙ ap (λ s. first_broken s p.ssd) (closed_none p.order) ∙ none_breaks p.ssd are

  -- a new user without roles
  pub user_whole : (user : List ℕ) (users : List (List ℕ × ℕ)) (roles : ℕ) → length now.users < 1024 → users ≡ insert_entry bytes_eq p.users user roles → roles ≡ 0 → AreSets p.ssd → IsPolicy (record p { users = users })
  user_whole user users roles room is_inserted none are =
      let few : length p.users ≡ length now.users = ap (λ (q : PolicyState). length q.users) same in
      let P : List (List ℕ × ℕ) → Type 0 = λ us. IsPolicy (record p { users = us }) in
      subst P (sym (is_inserted ∙ ap (insert_entry bytes_eq p.users user) none)) (record {
        ssd = whole_user user are;
        dsd = is.dsd;
        slots = is.slots;
        numbers = is.numbers;
        few_customers = is.few_customers;
        few_vehicles = is.few_vehicles;
        few_users = omega (arith, room, few, length-inserted bytes_eq p.users user 0);
        few_sessions = is.few_sessions;
        free = λ slot f. bare_users p.grants p.users p.sessions p.ssd p.dsd slot (is.free slot f) (insert_entry bytes_eq p.users user 0) (none_inserted (λ r. has r slot) bytes_eq p.users user 0 (is.free slot f).users (has-empty slot));
        count = is.count;
      })

  -- a user whose roles change
  pub roles_whole : (user : List ℕ) (roles : ℕ) → AreThere now.order roles → is_some (lookup (bytes_eq user) now.users) ≡ true → broken_ssd (with_roles now user roles) ≡ None → (users : List (List ℕ × ℕ)) → users ≡ insert_entry bytes_eq p.users user roles → IsPolicy (record p { users = users })
  roles_whole user roles used there whole users is_put =
      let own : AreThere p.order roles = subst (λ (q : PolicyState). AreThere q.order roles) (sym same) used in
      let P : List (List ℕ × ℕ) → Type 0 = λ us. IsPolicy (record p { users = us }) in
      let here : is_some (lookup (bytes_eq user) p.users) ≡ true = ap (λ (q : PolicyState). is_some (lookup (bytes_eq user) q.users)) same ∙ there in
      let none : broken_ssd (with_roles p user roles) ≡ None = ap (λ (q : PolicyState). broken_ssd (with_roles q user roles)) same ∙ whole in
      subst P (sym is_put) (record {
        ssd = none_mapped Ssd _ none;
        dsd = is.dsd;
        slots = is.slots;
        numbers = is.numbers;
        few_customers = is.few_customers;
        few_vehicles = is.few_vehicles;
        few_users = omega (arith, is.few_users, length-present bytes_eq p.users user roles here);
        few_sessions = is.few_sessions;
        free = λ slot f. bare_users p.grants p.users p.sessions p.ssd p.dsd slot (is.free slot f) (insert_entry bytes_eq p.users user roles) (none_inserted (λ r. has r slot) bytes_eq p.users user roles (is.free slot f).users (own slot f));
        count = is.count;
      })

  -- roles that are there: those of a user or a session with one more or one fewer, and those that are named
  pub assigned_there : (user : List ℕ) (held : ℕ) (role : List ℕ) (slot roles : ℕ) → Some held ≡ lookup (bytes_eq user) p.users → Some slot ≡ lookup (bytes_eq role) p.roles → roles ≡ with_role held slot → AreThere p.order roles
  assigned_there user held role slot roles at here is_roles s f =
      ap (λ r. has r s) is_roles
      ∙ with_none held slot s (apart_slots p.order.roles slot s (is.slots.there role slot (sym here)) f) (none_found (λ r. has r s) (bytes_eq user) p.users held (sym at) (is.free s f).users)

  -- the same, for a caller who does not look at the roles that the user has
  pub given_there : (user role : List ℕ) (slot : ℕ) → is_user p user ≡ true → Some slot ≡ lookup (bytes_eq role) p.roles → AreThere p.order (with_role (held_by p user) (slot_of p role))
  given_there user role slot there here = by (lookup (bytes_eq user) p.users) refl
    where
      by : (o : Option ℕ) → lookup (bytes_eq user) p.users ≡ o → AreThere p.order (with_role (held_by p user) (slot_of p role))
      by (Some held) at =
          assigned_there user held role slot (with_role (held_by p user) (slot_of p role)) (sym at) here
          (ap₂ with_role (ap (λ (o : Option ℕ). unwrap_or o 0) at) (ap (λ (o : Option ℕ). unwrap_or o 0) (sym here)))
      by None at = absurd (false≢true (sym (ap is_some at) ∙ there))

  pub left_there : (user : List ℕ) (held slot roles : ℕ) → Some held ≡ lookup (bytes_eq user) p.users → roles ≡ without held slot → AreThere p.order roles
  left_there user held slot roles at is_roles s f = ap (λ r. has r s) is_roles ∙ without_none held slot s (none_found (λ r. has r s) (bytes_eq user) p.users held (sym at) (is.free s f).users)

  pub activated_there : (number : ℕ) (session : Session) (role : List ℕ) (slot active : ℕ) → Some session ≡ lookup (nat_eq number) p.sessions → Some slot ≡ lookup (bytes_eq role) p.roles → active ≡ with_role session.active slot → AreThere p.order active
  activated_there number session role slot active at here is_active s f =
      ap (λ r. has r s) is_active
      ∙ with_none session.active slot s (apart_slots p.order.roles slot s (is.slots.there role slot (sym here)) f)
      (none_found (λ (x : Session). has x.active s) (nat_eq number) p.sessions session (sym at) (is.free s f).sessions)

  pub dropped_there : (number : ℕ) (session : Session) (slot active : ℕ) → Some session ≡ lookup (nat_eq number) p.sessions → active ≡ without session.active slot → AreThere p.order active
  dropped_there number session slot active at is_active s f =
      ap (λ r. has r s) is_active ∙ without_none session.active slot s (none_found (λ (x : Session). has x.active s) (nat_eq number) p.sessions session (sym at) (is.free s f).sessions)

  pub chosen_there : (roles : List (List ℕ)) (set : ℕ) → list_all (is_role now) roles ≡ true → set ≡ slots_of now roles → AreThere now.order set
  chosen_there roles set there is_set slot f =
      ap (λ r. has r slot) is_set ∙ named_there now (subst (λ (q : PolicyState). HasSlots q.roles q.order.roles) same is.slots) roles there slot f

  -- the permissions of a role that is there
  pub granted_whole : (slot : ℕ) (operation : Operation) (row : ℕ) → is_there now.order slot ≡ true → (grants : Rows) → grants ≡ row_set p.grants slot operation row → IsPolicy (record p { grants = grants })
  granted_whole slot operation row there grants is_put =
      let here : is_there p.order slot ≡ true = ap (λ (q : PolicyState). is_there q.order slot) same ∙ there in
      record {
        ssd = is.ssd;
        dsd = is.dsd;
        slots = is.slots;
        numbers = is.numbers;
        few_customers = is.few_customers;
        few_vehicles = is.few_vehicles;
        few_users = is.few_users;
        few_sessions = is.few_sessions;
        free = λ s f. bare_rows p.grants p.users p.sessions p.ssd p.dsd s (is.free s f) grants
            (λ other. ap (λ rows. row_at rows s other) is_put ∙ row_other p.grants slot s operation other row (apart_slots p.order.roles slot s here f) ∙ (is.free s f).permissions other);
        count = is.count;
      }

  -- a user with fewer roles
  pub fewer_whole : IsOrder p.order → (user : List ℕ) (held left : ℕ) → Some held ≡ lookup (bytes_eq user) p.users → ((q : ℕ) → has left q ≡ true → has held q ≡ true) → broken_ssd (with_roles now user left) ≡ None
  fewer_whole order user held left there within =
      sym (roles_judged user left None (sym (first_broken-fewer (closed p.order left) (closed p.order held) p.ssd (closed_fewer p.order order left held within)
      (broken_at (closed p.order) (bytes_eq user) held p.users p.ssd is.ssd there))))

  -- the one session whose roles change is judged for all
  pub session_judged : (number : ℕ) (session : Session) (found : Option (List ℕ)) → found ≡ first_broken (counted_of p session) p.dsd → option_map Dsd found ≡ broken_dsd (with_session now number session)
  session_judged number session found h =
      let P : PolicyState → Type 0 = λ s. option_map Dsd found ≡ broken_dsd (with_session s number session) in
      subst P same (ap (option_map Dsd) (h ∙ sym (breaking_inserted (counted_of p) nat_eq number session p.sessions p.dsd is.dsd)))

  -- a session with fewer active roles
  pub fewer_active : IsOrder p.order → (number : ℕ) (session next : Session) → Some session ≡ lookup (nat_eq number) p.sessions → ((q : ℕ) → has next.active q ≡ true → has session.active q ≡ true) → broken_dsd (with_session now number next) ≡ None
  fewer_active order number session next there within =
      sym (session_judged number next None (sym (first_broken-fewer (counted_of p next) (counted_of p session) p.dsd (counted_fewer p.counting p.order order next.active session.active within)
      (broken_at (counted_of p) (nat_eq number) session p.sessions p.dsd is.dsd there))))

  -- a session fewer
  pub shut_whole : (number : ℕ) (sessions : List (ℕ × Session)) → sessions ≡ remove_entry (nat_eq number) p.sessions → IsPolicy (record p { sessions = sessions })
  shut_whole number sessions is_removed =
      let P : List (ℕ × Session) → Type 0 = λ xs. IsPolicy (record p { sessions = xs }) in
      subst P (sym is_removed) (record {
        ssd = is.ssd;
        dsd = breaking_removed (counted_of p) (nat_eq number) p.sessions p.dsd is.dsd;
        slots = is.slots;
        numbers = rise-removed 0 p.last (nat_eq number) p.sessions is.numbers;
        few_customers = is.few_customers;
        few_vehicles = is.few_vehicles;
        few_users = is.few_users;
        few_sessions = omega (arith, is.few_sessions, length-removed (nat_eq number) p.sessions);
        free = λ slot f. bare_sessions p.grants p.users p.sessions p.ssd p.dsd slot (is.free slot f) (remove_entry (nat_eq number) p.sessions) (none_removed (λ (s : Session). has s.active slot) (nat_eq number) p.sessions (is.free slot f).sessions);
        count = is.count;
      })

  -- a session that is changed
  pub put_whole : (number : ℕ) (s : Session) → AreThere now.order s.active → is_session now number ≡ true → broken_dsd (with_session now number s) ≡ None → (sessions : List (ℕ × Session)) → sessions ≡ insert_entry nat_eq p.sessions number s → IsPolicy (record p { sessions = sessions })
  put_whole number s used there whole sessions is_put =
      let own : AreThere p.order s.active = subst (λ (q : PolicyState). AreThere q.order s.active) (sym same) used in
      let P : List (ℕ × Session) → Type 0 = λ xs. IsPolicy (record p { sessions = xs }) in
      let here : is_session p number ≡ true = ap (λ (q : PolicyState). is_session q number) same ∙ there in
      let none : broken_dsd (with_session p number s) ≡ None = ap (λ (q : PolicyState). broken_dsd (with_session q number s)) same ∙ whole in
      subst P (sym is_put) (record {
        ssd = is.ssd;
        dsd = none_mapped Dsd _ none;
        slots = is.slots;
        numbers = ap (rise 0 p.last) (numbers-present number s p.sessions here) ∙ is.numbers;
        few_customers = is.few_customers;
        few_vehicles = is.few_vehicles;
        few_users = is.few_users;
        few_sessions = omega (arith, is.few_sessions, length-present nat_eq p.sessions number s here);
        free = λ slot f. bare_sessions p.grants p.users p.sessions p.ssd p.dsd slot (is.free slot f) (insert_entry nat_eq p.sessions number s) (none_inserted (λ (x : Session). has x.active slot) nat_eq p.sessions number s (is.free slot f).sessions (own slot f));
        count = is.count;
      })

  -- a session that is opened
  pub opened_whole : (s : Session) → AreThere now.order s.active → length now.sessions < 1024 → broken_dsd (with_session now (now.last + 1) s) ≡ None → (sessions : List (ℕ × Session)) → sessions ≡ insert_entry nat_eq p.sessions (p.last + 1) s → IsPolicy (record p { sessions = sessions; last = p.last + 1 })
  opened_whole s used room whole sessions is_put =
      let own : AreThere p.order s.active = subst (λ (q : PolicyState). AreThere q.order s.active) (sym same) used in
      let few : length p.sessions ≡ length now.sessions = ap (λ (q : PolicyState). length q.sessions) same in
      let P : List (ℕ × Session) → Type 0 = λ xs. IsPolicy (record p { sessions = xs; last = p.last + 1 }) in
      let none : broken_dsd (with_session p (p.last + 1) s) ≡ None = ap (λ (q : PolicyState). broken_dsd (with_session q (q.last + 1) s)) same ∙ whole in
      subst P (sym is_put) (record {
        ssd = is.ssd;
        dsd = none_mapped Dsd _ none;
        slots = is.slots;
        numbers = rise-opened 0 p.last s p.sessions (omega arith) is.numbers;
        few_customers = is.few_customers;
        few_vehicles = is.few_vehicles;
        few_users = is.few_users;
        few_sessions = omega (arith, room, few, length-inserted nat_eq p.sessions (p.last + 1) s);
        free = λ slot f. bare_sessions p.grants p.users p.sessions p.ssd p.dsd slot (is.free slot f) (insert_entry nat_eq p.sessions (p.last + 1) s) (none_inserted (λ (x : Session). has x.active slot) nat_eq p.sessions (p.last + 1) s (is.free slot f).sessions (own slot f));
        count = is.count;
      })

pub fewer_of : (roles slot left : ℕ) → left ≡ without roles slot → (q : ℕ) → has left q ≡ true → has roles q ≡ true
fewer_of roles slot left is q h = without_within roles slot q (ap (λ s. has s q) (sym is) ∙ h)

-- a policy is its parts
pub same_parts : (p : PolicyState) (users : List (List ℕ × ℕ)) (roles : List (List ℕ × ℕ)) (order : Order) (grants : Rows) (ssd dsd : Groups) (sessions : List (ℕ × Session)) →
    users ≡ p.users → roles ≡ p.roles → order ≡ p.order → grants ≡ p.grants → ssd ≡ p.ssd → dsd ≡ p.dsd → sessions ≡ p.sessions →
    record p { users = users; roles = roles; order = order; grants = grants; ssd = ssd; dsd = dsd; sessions = sessions } ≡ p
same_parts p users roles order grants ssd dsd sessions e0 e1 e2 e3 e4 e5 e6 =
    ap (λ x. record p { users = x; roles = roles; order = order; grants = grants; ssd = ssd; dsd = dsd; sessions = sessions }) e0
    ∙ ap (λ x. record p { roles = x; order = order; grants = grants; ssd = ssd; dsd = dsd; sessions = sessions }) e1
    ∙ ap (λ x. record p { order = x; grants = grants; ssd = ssd; dsd = dsd; sessions = sessions }) e2
    ∙ ap (λ x. record p { grants = x; ssd = ssd; dsd = dsd; sessions = sessions }) e3
    ∙ ap (λ x. record p { ssd = x; dsd = dsd; sessions = sessions }) e4
    ∙ ap (λ x. record p { dsd = x; sessions = sessions }) e5
    ∙ ap (λ x. record p { sessions = x }) e6

no_members : count_ones 0 ≡ 0
no_members = omega (arith, ones-le 0 0 (omega arith))

pub none_is_policy : (customers vehicles : ℕ) → customers ≤ 1000 → vehicles ≤ 1000 → (p : PolicyState) → p ≡ no_policy customers vehicles → IsPolicy p
unfolding first_breaking
none_is_policy customers vehicles few some p is =
    let none : IsPolicy (no_policy customers vehicles) = record {
      ssd = refl;
      dsd = refl;
      slots = record { there = λ a slot h. cc; apart = λ a b slot h k. cc };
      numbers = refl;
      few_customers = few;
      few_vehicles = some;
      few_users = omega arith;
      few_sessions = omega arith;
      free = λ slot f. record { permissions = λ operation. no_rows_bare slot operation; users = refl; sessions = refl; ssd = refl; dsd = refl };
      count = sym no_members;
    } in
    subst IsPolicy (sym is) none

-- a new role, at a slot in which no pair stands
pub role_whole : (p : PolicyState) → IsPolicy p → (roles : List (List ℕ × ℕ)) (order : Order) (slot : ℕ) → order ≡ with_slot p.order slot → HasSlots roles order.roles → length roles ≡ role_count order → IsPolicy (record p { roles = roles; order = order })
role_whole p is roles order slot is_order slots counted_roles =
    let fewer : (s : ℕ) → is_there order s ≡ false → is_there p.order s ≡ false = λ s f. (or_parts (has p.order.roles s) _ (sym (has-with_role p.order.roles slot s) ∙ ap (λ (o : Order). has o.roles s) (sym is_order) ∙ f)).0 in
    let same : (given : ℕ) → closed order given ≡ closed p.order given = λ given. ap (λ o. closed o given) is_order ∙ closed-with_slot p.order slot given in
    let as_before : (active : ℕ) → counted p.counting order active ≡ counted p.counting p.order active = λ active. ap (λ o. counted p.counting o active) is_order ∙ counted-with_slot p.counting p.order slot active in
    record {
      ssd = ap (λ all. first_breaking all p.ssd) (same_authorized order p.order same p.users) ∙ is.ssd;
      dsd = ap (λ all. first_breaking all p.dsd) (same_counted p.counting order p.order as_before p.sessions) ∙ is.dsd;
      slots = slots;
      numbers = is.numbers;
      few_customers = is.few_customers;
      few_vehicles = is.few_vehicles;
      few_users = is.few_users;
      few_sessions = is.few_sessions;
      free = λ s f. is.free s (fewer s f);
      count = counted_roles;
    }

both_none : {X : Type 0} (a b : Option X) → option_or a b ≡ None → (a ≡ None) × (b ≡ None)
both_none None b h = (refl, h)
both_none (Some x) b h = cc

-- one more pair: users and sessions are judged again
pub pair_whole : (p now : PolicyState) → p ≡ now → IsPolicy p → (above below : ℕ) → broken (record now { order = with_pair now.order above below }) ≡ None → (order : Order) → order ≡ with_pair p.order above below → IsPolicy (record p { order = order })
pair_whole p now same is above below whole order is_order =
    let P : Order → Type 0 = λ o. IsPolicy (record p { order = o }) in
    let none = both_none _ _ (ap (λ (q : PolicyState). broken (record q { order = with_pair q.order above below })) same ∙ whole) in
    subst P (sym is_order) (record { ssd = none_mapped Ssd _ none.0; dsd = none_mapped Dsd _ none.1; slots = is.slots; numbers = is.numbers; few_customers = is.few_customers; few_vehicles = is.few_vehicles; few_users = is.few_users; few_sessions = is.few_sessions; free = is.free; count = is.count })

-- a user fewer, and its sessions
pub gone_whole : (p : PolicyState) → IsPolicy p → (user : List ℕ) (users : List (List ℕ × ℕ)) (sessions : List (ℕ × Session)) → users ≡ remove_entry (bytes_eq user) p.users → sessions ≡ filter (λ e. not (bytes_eq e.1.user user)) p.sessions →
    IsPolicy (record p { users = users; sessions = sessions })
gone_whole p is user users sessions is_removed is_filtered =
    let P : List (List ℕ × ℕ) → List (ℕ × Session) → Type 0 = λ us ss. IsPolicy (record p { users = us; sessions = ss }) in
    let kept : (ℕ × Session) → Bool = λ e. not (bytes_eq e.1.user user) in
    let given : (ℕ × Session) → ℕ = λ e. counted_of p e.1 in
    let whole : P (remove_entry (bytes_eq user) p.users) (filter kept p.sessions) = record {
      ssd = breaking_removed (closed p.order) (bytes_eq user) p.users p.ssd is.ssd;
      dsd = breaking_filtered given kept p.sessions p.dsd is.dsd;
      slots = is.slots;
      numbers = rise-filter 0 p.last kept p.sessions is.numbers;
      few_customers = is.few_customers;
      few_vehicles = is.few_vehicles;
      few_users = omega (arith, is.few_users, length-removed (bytes_eq user) p.users);
      few_sessions = omega (arith, is.few_sessions, length-kept kept p.sessions);
      free = λ slot f. (
          let b = bare_users p.grants p.users p.sessions p.ssd p.dsd slot (is.free slot f) (remove_entry (bytes_eq user) p.users) (none_removed (λ r. has r slot) (bytes_eq user) p.users (is.free slot f).users) in
          bare_sessions p.grants (remove_entry (bytes_eq user) p.users) p.sessions p.ssd p.dsd slot b (filter kept p.sessions) (none_kept (λ (x : Session). has x.active slot) kept p.sessions (is.free slot f).sessions));
      count = is.count;
    } in
    let Q : List (List ℕ × ℕ) → Type 0 = λ us. P us sessions in
    subst Q (sym is_removed) (subst (P (remove_entry (bytes_eq user) p.users)) (sym is_filtered) whole)
