-- What a change of the sets of a kind does to the whole policy.
use Rattle.std.proofs.Common.{◌≡◌, cond, ℕ, Bool, true, false, List, [], ◌∷◌, ◌||◌, map, Option, Some, None, sym, refl, ap, ap₂, ◌∙◌}
use Rattle.std.specs.Prelude.{Result, Ok, Err, OnOk, OnErr, bytes_eq, is_some, unwrap_or, not}
use Rattle.std.specs.Map.{lookup}
use Rattle.std.specs.Option.{option_map}
use Rattle.std.specs.List.{list_any, list_all}
use Rattle.role_hierarchy.specs.Order.{Order, is_there}
use Rattle.role_hierarchy.specs.Below.{closed}
use Rattle.role_hierarchy.specs.Roles.{has, with_role}
use Rattle.separation_core.specs.Groups.{Groups, is_broken, is_in_some, with_set, changed, with_member, without_member, with_number, without_set, limit_of, limit_with, limit_without, limit_of_number, first_breaking, add_refusal}
use Rattle.separation_core.specs.GroupLaws.{breaking-with_set, breaking-changed, breaking-without_member, breaking-without_set}
use Rattle.separation_core.specs.declared.sets.Limit.{Limit}
use Rattle.separation_core.specs.declared.sets.SetFault.{SetFault}
use Rattle.separation_core.specs.declared.sets.SetFault.TheVariants as fault
use Rattle.policy_core.specs.declared.refusal.Refusal.{Refusal}
use Rattle.policy_core.specs.declared.refusal.Refusal.TheVariants.{Already, Ssd, Dsd}
use Rattle.policy_core.specs.declared.separation.Separation.{Separation}
use Rattle.policy_core.specs.declared.separation.Separation.TheVariants.{Static, Dynamic}
use Rattle.policy_core.specs.declared.session.Session.{Session}
use Rattle.policy_core.specs.declared.session.Counting.{Counting}
use Rattle.policy_core.specs.KeptLaws.{none_mapped}
use Rattle.policy_core.specs.Kinds.{sets_of, with_sets, given_by, broken_by}
use Rattle.policy_core.specs.Commands.{as_refusal, slots_of, set_created, member_added, add_member_refusal, set_numbered}
use Rattle.policy_core.specs.State.{PolicyState, IsPolicy, counted, is_role, slot_of}
use Rattle.policy_core.proofs.CommandLaws.{chosen_there}
use Rattle.policy_core.proofs.TestLaws.{passes, found, missed}
use Rattle.policy_core.proofs.FreeLaws.{bare_ssd, bare_dsd, in_none-with_set, in_none-changed, in_none-without_set, with_none, without_none, apart_slots}

any_closed : (order : Order) (limit : Limit) (users : List (List ℕ × ℕ)) → list_any (λ roles. is_broken (closed order roles) limit) (map (λ u. u.1) users) ≡ list_any (λ given. is_broken given limit) (map (λ u. closed order u.1) users)
any_closed order limit [] = refl
any_closed order limit (u ∷ users) = ap (λ t. is_broken (closed order u.1) limit || t) (any_closed order limit users)

any_counted : (counting : Counting) (order : Order) (limit : Limit) (sessions : List (ℕ × Session)) → list_any (λ (s : Session). is_broken (counted counting order s.active) limit) (map (λ e. e.1) sessions) ≡ list_any (λ given. is_broken given limit) (map (λ e. counted counting order e.1.active) sessions)
any_counted counting order limit [] = refl
any_counted counting order limit (e ∷ sessions) = ap (λ t. is_broken (counted counting order e.1.active) limit || t) (any_counted counting order limit sessions)

-- whether some user or session breaks a set, as the code asks it
module _ (p now : PolicyState) (same : p ≡ now) (limit : Limit) (kind : Separation) where
  pub some_user : kind ≡ Static → list_any (λ roles. is_broken (closed p.order roles) limit) (map (λ u. u.1) p.users) ≡ list_any (λ given. is_broken given limit) (given_by kind now)
  some_user static = any_closed p.order limit p.users ∙ ap₂ (λ (k : Separation) (s : PolicyState). list_any (λ given. is_broken given limit) (given_by k s)) (sym static) same

  pub some_session : kind ≡ Dynamic → list_any (λ (s : Session). is_broken (counted p.counting p.order s.active) limit) (map (λ e. e.1) p.sessions) ≡ list_any (λ given. is_broken given limit) (given_by kind now)
  some_session dynamic = any_counted p.counting p.order limit p.sessions ∙ ap₂ (λ (k : Separation) (s : PolicyState). list_any (λ given. is_broken given limit) (given_by k s)) (sym dynamic) same

-- the refusal that names a broken set
abbrev pub named_by : Separation → List ℕ → Refusal
named_by Static = Ssd
named_by Dynamic = Dsd

judged : (kind : Separation) (p : PolicyState) (groups : Groups) → broken_by kind (with_sets kind p groups) ≡ option_map (named_by kind) (first_breaking (given_by kind p) groups)
judged Static p groups = refl
judged Dynamic p groups = refl

unbroken : (kind : Separation) (p : PolicyState) → IsPolicy p → first_breaking (given_by kind p) (sets_of kind p) ≡ None
unbroken Static p is = is.ssd
unbroken Dynamic p is = is.dsd

-- a new set, or one with other roles or another number, is the only one that may be broken
module _ (now : PolicyState) (is : IsPolicy now) (kind : Separation) (name : List ℕ) (limit : Limit) (found : Bool) (h : found ≡ list_any (λ given. is_broken given limit) (given_by kind now)) where
  pub created_broken : option_map (named_by kind) (cond found (Some name) None) ≡ broken_by kind (with_sets kind now (with_set (sets_of kind now) name limit))
  created_broken =
      ap (λ t. option_map (named_by kind) (cond t (Some name) None)) h
      ∙ ap (option_map (named_by kind)) (sym (breaking-with_set (given_by kind now) (sets_of kind now) name limit (unbroken kind now is)))
      ∙ sym (judged kind now (with_set (sets_of kind now) name limit))

  pub changed_broken : (f : Limit → Limit) (old : Limit) → limit_of (sets_of kind now) name ≡ Some old → f old ≡ limit → option_map (named_by kind) (cond found (Some name) None) ≡ broken_by kind (with_sets kind now (changed (sets_of kind now) name f))
  changed_broken f old there becomes =
      ap (λ t. option_map (named_by kind) (cond t (Some name) None)) (h ∙ ap (λ l. list_any (λ given. is_broken given l) (given_by kind now)) (sym becomes))
      ∙ ap (option_map (named_by kind)) (sym (breaking-changed (given_by kind now) (sets_of kind now) name f old there (unbroken kind now is)))
      ∙ sym (judged kind now (changed (sets_of kind now) name f))

-- a role that joins a set, where the set that it makes was judged
module _ (kind : Separation) (p : PolicyState) (name role : List ℕ) (slot : ℕ) (limit : Limit) (there : Some slot ≡ lookup (bytes_eq role) p.roles) (here : Some limit ≡ limit_of (sets_of kind p) name) where
  at : slot ≡ slot_of p role
  at = ap (λ (o : Option ℕ). unwrap_or o 0) there

  pub in_set : true ≡ has limit.roles slot → Some Already ≡ add_member_refusal kind p name role
  unfolding add_member_refusal
  in_set h =
      passes _ (ap is_some there) (found _ (ap (λ t. as_refusal Already (cond t (Some fault.Member) None)) h ∙ ap₂ (λ (o : Option Limit) s. as_refusal Already (add_refusal o s)) here at))

  pub room : has limit.roles slot ≡ false → add_refusal (limit_of (sets_of kind p) name) (slot_of p role) ≡ None
  room new = sym (ap₂ add_refusal here at) ∙ ap (λ (t : Bool). cond t (Some fault.Member) None) new

  -- what it breaks
  module _ (roles : ℕ) (is_roles : roles ≡ with_role limit.roles slot) (broken : Option Refusal)
      (judged : (f : Limit → Limit) (old : Limit) → limit_of (sets_of kind p) name ≡ Some old → f old ≡ record { roles = roles; number = limit.number } → broken ≡ broken_by kind (with_sets kind p (changed (sets_of kind p) name f))) where
    pub may_break : broken ≡ broken_by kind (member_added kind p name role)
    may_break =
        let with_roles : ℕ → Limit = λ r. record { roles = r; number = limit.number } in
        judged (limit_with (slot_of p role)) limit (sym here) (ap with_roles (ap (with_role limit.roles) (sym at) ∙ sym is_roles))

    pub may_join : has limit.roles slot ≡ false → broken ≡ add_member_refusal kind p name role
    unfolding add_member_refusal
    may_join new = passes _ (ap is_some there) (missed (ap (as_refusal Already) (sym (room new))) may_break)

-- other sets, which are not broken either
sets_whole : (kind : Separation) (p : PolicyState) → IsPolicy p → (groups : Groups) → first_breaking (given_by kind p) groups ≡ None → ((slot : ℕ) → is_there p.order slot ≡ false → is_in_some groups slot ≡ false) → IsPolicy (with_sets kind p groups)
sets_whole Static p is groups none outside = record {
  ssd = none;
  dsd = is.dsd;
  slots = is.slots;
  numbers = is.numbers;
  few_customers = is.few_customers;
  few_vehicles = is.few_vehicles;
  few_users = is.few_users;
  few_sessions = is.few_sessions;
  free = λ slot f. bare_ssd p.grants p.users p.sessions p.ssd p.dsd slot (is.free slot f) groups (outside slot f);
  count = is.count;
}
sets_whole Dynamic p is groups none outside = record {
  ssd = is.ssd;
  dsd = none;
  slots = is.slots;
  numbers = is.numbers;
  few_customers = is.few_customers;
  few_vehicles = is.few_vehicles;
  few_users = is.few_users;
  few_sessions = is.few_sessions;
  free = λ slot f. bare_dsd p.grants p.users p.sessions p.ssd p.dsd slot (is.free slot f) groups (outside slot f);
  count = is.count;
}

free_of : (kind : Separation) (p : PolicyState) → IsPolicy p → (slot : ℕ) → is_there p.order slot ≡ false → is_in_some (sets_of kind p) slot ≡ false
free_of Static p is slot f = (is.free slot f).ssd
free_of Dynamic p is slot f = (is.free slot f).dsd

-- sets that are changed as they should be, or left as they were by a change that was refused
changed_or_same : {T E : Type 0} (kind : Separation) (p : PolicyState) → IsPolicy p → (groups next : Groups) → (groups ≡ next → IsPolicy (with_sets kind p groups)) → (r : Result T E) → OnOk r (groups ≡ next) → OnErr r (groups ≡ sets_of kind p) → IsPolicy (with_sets kind p groups)
changed_or_same kind p is groups next whole (Ok x) ok err = whole ok
changed_or_same kind p is groups next whole (Err e) ok err =
    sets_whole kind p is groups (ap (first_breaking (given_by kind p)) err ∙ unbroken kind p is) (λ slot f. ap (λ (g : Groups). is_in_some g slot) err ∙ free_of kind p is slot f)

-- Changes of the sets of a kind that were judged before, where the code has come to the arm of that kind.
module _ (p now : PolicyState) (same : p ≡ now) (is : IsPolicy p) (kind k : Separation) (chosen : kind ≡ k) where
  -- a change that was judged is not refused
  pub not_refused : (test : PolicyState → Groups → Option SetFault) (e : SetFault) → test now (sets_of kind now) ≡ None → test p (sets_of k p) ≡ Some e → ⊥
  not_refused test e none some = (let own : test p (sets_of k p) ≡ None = ap₂ (λ (j : Separation) (s : PolicyState). test s (sets_of j s)) (sym chosen) same ∙ none in cc)

  judged_whole : (groups : Groups) (made : Groups → PolicyState → Groups) → groups ≡ made (sets_of k p) p → broken_by kind (with_sets kind now (made (sets_of kind now) now)) ≡ None → ((slot : ℕ) → is_there p.order slot ≡ false → is_in_some groups slot ≡ false) → IsPolicy (with_sets k p groups)
  judged_whole groups made put whole outside =
      let own : broken_by k (with_sets k p (made (sets_of k p) p)) ≡ None = ap₂ (λ (j : Separation) (s : PolicyState). broken_by j (with_sets j s (made (sets_of j s) s))) (sym chosen) same ∙ whole in
      sets_whole k p is groups (ap (first_breaking (given_by k p)) put ∙ none_mapped (named_by k) _ (sym (judged k p (made (sets_of k p) p)) ∙ own)) outside

  pub created_whole : {T E : Type 0} (name : List ℕ) (number : ℕ) (roles : List (List ℕ)) (set : ℕ) → set ≡ slots_of now roles → list_all (is_role now) roles ≡ true → broken_by kind (set_created kind now name number roles) ≡ None →
      (groups : Groups) (r : Result T E) → OnOk r (groups ≡ with_set (sets_of k p) name (record { roles = set; number = number })) → OnErr r (groups ≡ sets_of k p) → IsPolicy (with_sets k p groups)
  created_whole name number roles set is_set there whole groups =
      changed_or_same k p is groups _ (λ put. judged_whole groups (λ g s. with_set g name (record { roles = slots_of s roles; number = number }))
      (put ∙ ap (λ r. with_set (sets_of k p) name (record { roles = r; number = number })) (is_set ∙ ap (λ (s : PolicyState). slots_of s roles) (sym same))) whole
      (λ slot f. ap (λ (g : Groups). is_in_some g slot) put
      ∙ in_none-with_set (sets_of k p) name _ slot (free_of k p is slot f) (chosen_there p now same is roles set there is_set slot (ap (λ (s : PolicyState). is_there s.order slot) (sym same) ∙ f))))

  pub added_whole : {T E : Type 0} (name role : List ℕ) (slot : ℕ) → slot ≡ slot_of now role → is_there now.order slot ≡ true → broken_by kind (member_added kind now name role) ≡ None →
      (groups : Groups) (r : Result T E) → OnOk r (groups ≡ with_member (sets_of k p) name slot) → OnErr r (groups ≡ sets_of k p) → IsPolicy (with_sets k p groups)
  added_whole name role slot is_slot there whole groups =
      changed_or_same k p is groups _ (λ put. judged_whole groups (λ g s. with_member g name (slot_of s role))
      (put ∙ ap (with_member (sets_of k p) name) (is_slot ∙ ap (λ (s : PolicyState). slot_of s role) (sym same))) whole
      (λ q f. ap (λ (g : Groups). is_in_some g q) put
      ∙ in_none-changed (sets_of k p) name (limit_with slot) q (λ limit none. with_none limit.roles slot q (apart_slots p.order.roles slot q (ap (λ (s : PolicyState). is_there s.order slot) same ∙ there) f) none) (free_of k p is q f)))

  pub numbered_whole : {T E : Type 0} (name : List ℕ) (number : ℕ) → broken_by kind (set_numbered kind now name number) ≡ None →
      (groups : Groups) (r : Result T E) → OnOk r (groups ≡ with_number (sets_of k p) name number) → OnErr r (groups ≡ sets_of k p) → IsPolicy (with_sets k p groups)
  numbered_whole name number whole groups =
      changed_or_same k p is groups _ (λ put. judged_whole groups (λ g s. with_number g name number) put whole
      (λ slot f. ap (λ (g : Groups). is_in_some g slot) put ∙ in_none-changed (sets_of k p) name (limit_of_number number) slot (λ limit none. none) (free_of k p is slot f)))

-- a set with a role fewer
pub left_whole : {T E : Type 0} (kind : Separation) (p : PolicyState) → IsPolicy p → (name : List ℕ) (role : ℕ) (groups : Groups) (r : Result T E) → OnOk r (groups ≡ without_member (sets_of kind p) name role) → OnErr r (groups ≡ sets_of kind p) → IsPolicy (with_sets kind p groups)
left_whole kind p is name role groups =
    changed_or_same kind p is groups _ (λ put. sets_whole kind p is groups (ap (first_breaking (given_by kind p)) put ∙ breaking-without_member (given_by kind p) (sets_of kind p) name role (unbroken kind p is))
    (λ slot f. ap (λ (g : Groups). is_in_some g slot) put ∙ in_none-changed (sets_of kind p) name (limit_without role) slot (λ limit none. without_none limit.roles role slot none) (free_of kind p is slot f)))

-- a set fewer
pub gone_whole : {T E : Type 0} (kind : Separation) (p : PolicyState) → IsPolicy p → (name : List ℕ) (groups : Groups) (r : Result T E) → OnOk r (groups ≡ without_set (sets_of kind p) name) → OnErr r (groups ≡ sets_of kind p) → IsPolicy (with_sets kind p groups)
gone_whole kind p is name groups =
    changed_or_same kind p is groups _ (λ put. sets_whole kind p is groups (ap (first_breaking (given_by kind p)) put ∙ breaking-without_set (given_by kind p) (sets_of kind p) name (unbroken kind p is))
    (λ slot f. ap (λ (g : Groups). is_in_some g slot) put ∙ in_none-without_set (sets_of kind p) name slot (free_of kind p is slot f)))
