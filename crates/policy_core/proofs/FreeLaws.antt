-- A slot that is free has no permission, user, session or set, and keeps none.
use Rattle.std.proofs.Common.{◌≡◌, ◌≢◌, ◌<◌, ◌≤◌, ℕ, zero, suc, ◌+◌, ◌*◌, Bool, true, false, cond, not, ◌&&◌, ◌||◌, inl, inr, List, [], ◌∷◌, map, filter, length, set, get_or, replicate, Option, Some, None, sym, refl, ap, ap₂, ◌∙◌, arith}
use Rattle.std.specs.Prelude.{bytes_eq, is_some, unwrap_or, fold}
use Rattle.std.specs.List.{list_any, list_all}
use Rattle.std.specs.Map.{lookup, remove_entry}
use Rattle.indexmap.specs.IndexMap.{insert_entry}
use Rattle.std.proofs.lemmas.Bool.{false≢true, or_parts, and_parts, cases_eq, cases_lt, eq-eqb, ne_eqb}
use Rattle.std.proofs.lemmas.List.{get_or-set_same, get_or-set_other, get_or_past, get_or-replicate, length-set, length-replicate}
use Rattle.limits.specs.declared.TheConstants.{MOST_ROLES}
use Rattle.role_hierarchy.specs.Roles.{has, with_role, without}
use Rattle.role_hierarchy.specs.RoleLaws.{has-empty, has-with_role, has-without}
use Rattle.role_hierarchy.specs.Order.{Order, Chain, stands}
use Rattle.role_hierarchy.specs.Below.{closed, IsOrder}
use Rattle.role_hierarchy.specs.BelowLaws.{has-closed}
use Rattle.separation_core.specs.Groups.{Groups, is_in_some, with_set, changed, without_set}
use Rattle.separation_core.specs.declared.sets.Limit.{Limit}
use Rattle.permission_core.specs.declared.objects.Operation.{Operation}
use Rattle.permission_core.specs.declared.objects.TheConstants.{OPERATIONS}
use Rattle.permission_core.specs.Objects.{index_of}
use Rattle.permission_core.specs.OperationLaws.{index_small}
use Rattle.permission_core.specs.Permissions.{Rows, row_place, row_at, row_set, no_rows, cleared_rows, rows_cleared}
use Rattle.policy_core.specs.declared.session.Session.{Session}
use Rattle.policy_core.specs.State.{PolicyState, HasSlots, AreBare, AreThere, is_role, slot_of}
use Rattle.policy_core.specs.Commands.{slots_of}

pub neither : {a b : Bool} → a ≡ false → b ≡ false → (a || b) ≡ false
neither h k = ap₂ (λ s t. s || t) h k

-- entries of which none passes a test
module _ {K V : Type 0} (test : V → Bool) where
  abbrev pub passes : K × V → Bool
  passes e = test e.1

  pub none_inserted : (same : K → K → Bool) (es : List (K × V)) (k : K) (v : V) → list_any passes es ≡ false → test v ≡ false → list_any passes (insert_entry same es k v) ≡ false
  none_inserted same [] k v none new = neither new refl
  none_inserted same (e ∷ es) k v none new =
      let parts = or_parts (test e.1) (list_any passes es) none in
      elim (same k e.0) as (λ t. list_any passes (cond t ((e.0, v) ∷ es) (e ∷ insert_entry same es k v)) ≡ false) [
        | true ↦ neither new parts.1
        | false ↦ neither parts.0 (none_inserted same es k v parts.1 new)
      ]

  pub none_removed : (key : K → Bool) (es : List (K × V)) → list_any passes es ≡ false → list_any passes (remove_entry key es) ≡ false
  none_removed key [] none = none
  none_removed key (e ∷ es) none =
      let parts = or_parts (test e.1) (list_any passes es) none in
      elim (key e.0) as (λ t. list_any passes (cond t es (e ∷ remove_entry key es)) ≡ false) [
        | true ↦ parts.1
        | false ↦ neither parts.0 (none_removed key es parts.1)
      ]

  pub none_kept : (keep : K × V → Bool) (es : List (K × V)) → list_any passes es ≡ false → list_any passes (filter keep es) ≡ false
  none_kept keep [] none = none
  none_kept keep (e ∷ es) none =
      let parts = or_parts (test e.1) (list_any passes es) none in
      elim (keep e) as (λ t. list_any passes (cond t (e ∷ filter keep es) (filter keep es)) ≡ false) [
        | true ↦ neither parts.0 (none_kept keep es parts.1)
        | false ↦ none_kept keep es parts.1
      ]

  pub none_changed : (k : V → V) → ((v : V) → test v ≡ false → test (k v) ≡ false) → (es : List (K × V)) → list_any passes es ≡ false → list_any passes (map (λ e. (e.0, k e.1)) es) ≡ false
  none_changed k keeps [] none = none
  none_changed k keeps (e ∷ es) none =
      let parts = or_parts (test e.1) (list_any passes es) none in
      neither (keeps e.1 parts.0) (none_changed k keeps es parts.1)

  pub none_made : (k : V → V) → ((v : V) → test (k v) ≡ false) → (es : List (K × V)) → list_any passes (map (λ e. (e.0, k e.1)) es) ≡ false
  none_made k fails [] = refl
  none_made k fails (e ∷ es) = neither (fails e.1) (none_made k fails es)

  pub none_found : (key : K → Bool) (es : List (K × V)) (v : V) → lookup key es ≡ Some v → list_any passes es ≡ false → test v ≡ false
  none_found key [] v there none = cc
  none_found key (e ∷ es) v there none =
      let parts = or_parts (test e.1) (list_any passes es) none in
      by parts.0 (λ found. none_found key es v found parts.1) (key e.0) there
    where
      by : test e.1 ≡ false → (lookup key es ≡ Some v → test v ≡ false) → (t : Bool) → cond t (Some e.1) (lookup key es) ≡ Some v → test v ≡ false
      by first rest true h = (let same : e.1 ≡ v = cc in ap test (sym same) ∙ first)
      by first rest false h = rest h

-- sets of which none has the role
pub in_none-with_set : (groups : Groups) (name : List ℕ) (limit : Limit) (slot : ℕ) → is_in_some groups slot ≡ false → has limit.roles slot ≡ false → is_in_some (with_set groups name limit) slot ≡ false
in_none-with_set [] name limit slot none new = neither new refl
in_none-with_set (g ∷ groups) name limit slot none new =
    let parts = or_parts (has g.1.roles slot) (is_in_some groups slot) none in
    neither parts.0 (in_none-with_set groups name limit slot parts.1 new)

pub in_none-changed : (groups : Groups) (name : List ℕ) (f : Limit → Limit) (slot : ℕ) → ((limit : Limit) → has limit.roles slot ≡ false → has (f limit).roles slot ≡ false) →
    is_in_some groups slot ≡ false → is_in_some (changed groups name f) slot ≡ false
in_none-changed [] name f slot keeps none = none
in_none-changed (g ∷ groups) name f slot keeps none =
    let parts = or_parts (has g.1.roles slot) (is_in_some groups slot) none in
    elim (bytes_eq name g.0) as (λ t. is_in_some (cond t ((g.0, f g.1) ∷ groups) (g ∷ changed groups name f)) slot ≡ false) [
      | true ↦ neither (keeps g.1 parts.0) parts.1
      | false ↦ neither parts.0 (in_none-changed groups name f slot keeps parts.1)
    ]

pub in_none-without_set : (groups : Groups) (name : List ℕ) (slot : ℕ) → is_in_some groups slot ≡ false → is_in_some (without_set groups name) slot ≡ false
in_none-without_set [] name slot none = none
in_none-without_set (g ∷ groups) name slot none =
    let parts = or_parts (has g.1.roles slot) (is_in_some groups slot) none in
    elim (bytes_eq name g.0) as (λ t. is_in_some (cond t groups (g ∷ remove_entry (bytes_eq name) groups)) slot ≡ false) [
      | true ↦ parts.1
      | false ↦ neither parts.0 (in_none-without_set groups name slot parts.1)
    ]

-- fewer roles, and one more
pub fewer_none : (few many slot : ℕ) → ((q : ℕ) → has few q ≡ true → has many q ≡ true) → has many slot ≡ false → has few slot ≡ false
fewer_none few many slot within none = by (has few slot) refl
  where
    by : (t : Bool) → has few slot ≡ t → has few slot ≡ false
    by false e = e
    by true e = absurd (false≢true (sym none ∙ within slot e))

pub without_none : (roles a slot : ℕ) → has roles slot ≡ false → has (without roles a) slot ≡ false
without_none roles a slot none = fewer_none (without roles a) roles slot (λ q h. (and_parts _ _ (sym (has-without roles a q) ∙ h)).1) none

pub without_itself : (roles slot : ℕ) → has (without roles slot) slot ≡ false
without_itself roles slot = has-without roles slot slot ∙ ap (λ t. not t && has roles slot) (eq-eqb slot slot refl)

pub apart_slots : (used a slot : ℕ) → has used a ≡ true → has used slot ≡ false → slot ≢ a
apart_slots used a slot there free same = false≢true (sym free ∙ ap (has used) same ∙ there)

pub with_none : (roles a slot : ℕ) → slot ≢ a → has roles slot ≡ false → has (with_role roles a) slot ≡ false
with_none roles a slot apart none = has-with_role roles a slot ∙ neither none (ne_eqb slot a apart)

-- the slots of roles that are there
module _ (p : PolicyState) (slots : HasSlots p.roles p.order.roles) where
  pub slot_there : (role : List ℕ) → is_role p role ≡ true → has p.order.roles (slot_of p role) ≡ true
  slot_there role there = by (lookup (bytes_eq role) p.roles) refl there
    where
      by : (found : Option ℕ) → lookup (bytes_eq role) p.roles ≡ found → is_some found ≡ true → has p.order.roles (unwrap_or found 0) ≡ true
      by None e h = absurd (false≢true h)
      by (Some slot) e h = slots.there role slot e

  slots_from : (roles : List (List ℕ)) (set : ℕ) → list_all (is_role p) roles ≡ true → AreThere p.order set → AreThere p.order (fold (λ s role. with_role s (slot_of p role)) set roles)
  slots_from [] set there all = all
  slots_from (role ∷ roles) set there all =
      let parts = and_parts _ _ there in
      slots_from roles (with_role set (slot_of p role)) parts.1
      (λ slot free. with_none set (slot_of p role) slot (apart_slots p.order.roles (slot_of p role) slot (slot_there role parts.0) free) (all slot free))

  pub named_there : (roles : List (List ℕ)) → list_all (is_role p) roles ≡ true → AreThere p.order (slots_of p roles)
  named_there roles there = slots_from roles 0 there (λ slot free. has-empty slot)

-- rows of other slots
pub row_other : (rows : Rows) (a slot : ℕ) (operation other : Operation) (row : ℕ) → slot ≢ a → row_at (row_set rows a operation row) slot other ≡ row_at rows slot other
row_other rows a slot operation other row apart =
    get_or-set_other rows (row_place a operation) (row_place slot other) row 0
    (λ same. apart (omega (arith, index_small operation, index_small other, same)))

set_none : (rows : Rows) (i : ℕ) → get_or (set rows i 0) i 0 ≡ 0
set_none rows i = elim (cases_lt i (length rows)) [
  | inl within ↦ get_or-set_same rows i 0 0 within
  | inr past ↦ get_or_past (set rows i 0) i 0 (omega (arith, past, length-set rows i 0))
]

cleared_other : (rows : Rows) (a slot n : ℕ) (operation : Operation) → n ≤ OPERATIONS → slot ≢ a → row_at (cleared_rows rows a n) slot operation ≡ row_at rows slot operation
unfolding cleared_rows
cleared_other rows a slot zero operation small apart = refl
cleared_other rows a slot (suc n) operation small apart =
    get_or-set_other (cleared_rows rows a n) (OPERATIONS * a + n) (row_place slot operation) 0 0 (λ same. apart (omega (arith, index_small operation, small, same)))
    ∙ cleared_other rows a slot n operation (omega (arith, small)) apart

cleared_own : (rows : Rows) (a n i : ℕ) → i < n → get_or (cleared_rows rows a n) (OPERATIONS * a + i) 0 ≡ 0
unfolding cleared_rows
cleared_own rows a zero i h = absurd (omega (arith, h))
cleared_own rows a (suc n) i h = elim (cases_eq i n) [
  | inl e ↦ ap (λ k. get_or (set (cleared_rows rows a n) (OPERATIONS * a + n) 0) (OPERATIONS * a + k) 0) e ∙ set_none (cleared_rows rows a n) (OPERATIONS * a + n)
  | inr ne ↦
      get_or-set_other (cleared_rows rows a n) (OPERATIONS * a + n) (OPERATIONS * a + i) 0 0 (λ same. ne (omega (arith, same)))
      ∙ cleared_own rows a n i (omega (arith, h, ne))
]

pub rows_bare : (rows : Rows) (a slot : ℕ) (operation : Operation) → (slot ≢ a → row_at rows slot operation ≡ 0) → row_at (rows_cleared rows a) slot operation ≡ 0
rows_bare rows a slot operation before = elim (cases_eq slot a) [
  | inl e ↦ ap (λ s. row_at (rows_cleared rows a) s operation) e ∙ cleared_own rows a OPERATIONS (index_of operation) (index_small operation)
  | inr ne ↦ cleared_other rows a slot OPERATIONS operation (omega arith) ne ∙ before ne
]

pub no_rows_bare : (slot : ℕ) (operation : Operation) → row_at no_rows slot operation ≡ 0
no_rows_bare slot operation = elim (cases_lt (row_place slot operation) (OPERATIONS * MOST_ROLES)) [
  | inl within ↦ get_or-replicate (OPERATIONS * MOST_ROLES) (row_place slot operation) 0 0 within
  | inr past ↦ get_or_past (replicate (OPERATIONS * MOST_ROLES) 0) (row_place slot operation) 0 (omega (arith, past, length-replicate {A = ℕ} (OPERATIONS * MOST_ROLES) 0))
]

-- the same where one part differs
module _ (grants : Rows) (users : List (List ℕ × ℕ)) (sessions : List (ℕ × Session)) (ssd dsd : Groups) (slot : ℕ) (bare : AreBare grants users sessions ssd dsd slot) where
  pub bare_rows : (others : Rows) → ((operation : Operation) → row_at others slot operation ≡ 0) → AreBare others users sessions ssd dsd slot
  bare_rows others none = record { permissions = none; users = bare.users; sessions = bare.sessions; ssd = bare.ssd; dsd = bare.dsd }

  pub bare_users : (others : List (List ℕ × ℕ)) → list_any (λ u. has u.1 slot) others ≡ false → AreBare grants others sessions ssd dsd slot
  bare_users others none = record { permissions = bare.permissions; users = none; sessions = bare.sessions; ssd = bare.ssd; dsd = bare.dsd }

  pub bare_sessions : (others : List (ℕ × Session)) → list_any (λ s. has s.1.active slot) others ≡ false → AreBare grants users others ssd dsd slot
  bare_sessions others none = record { permissions = bare.permissions; users = bare.users; sessions = none; ssd = bare.ssd; dsd = bare.dsd }

  pub bare_ssd : (others : Groups) → is_in_some others slot ≡ false → AreBare grants users sessions others dsd slot
  bare_ssd others none = record { permissions = bare.permissions; users = bare.users; sessions = bare.sessions; ssd = none; dsd = bare.dsd }

  pub bare_dsd : (others : Groups) → is_in_some others slot ≡ false → AreBare grants users sessions ssd others slot
  bare_dsd others none = record { permissions = bare.permissions; users = bare.users; sessions = bare.sessions; ssd = bare.ssd; dsd = none }

-- a role that stands in no pair is below no other
last_pair : (order : Order) (a : ℕ) (rest : List ℕ) (b : ℕ) → Chain (stands order) a rest b → a ≢ b → (y : ℕ) × (stands order y b ≡ true)
last_pair order a [] b chain apart = absurd (apart chain)
last_pair order a (x ∷ rest) b chain apart = elim (cases_eq x b) [
  | inl e ↦ (a, ap (stands order a) (sym e) ∙ chain.0)
  | inr ne ↦ last_pair order x rest b chain.1 ne
]

pub alone_none : (order : Order) → IsOrder order → (roles slot : ℕ) → ((y : ℕ) → stands order y slot ≡ false) → has roles slot ≡ false → has (closed order roles) slot ≡ false
alone_none order is roles slot alone none = by (has (closed order roles) slot) refl
  where
    by : (t : Bool) → has (closed order roles) slot ≡ t → has (closed order roles) slot ≡ false
    by false e = e
    by true e =
        let from = (has-closed order is roles slot).0 e in
        let apart : from.0 ≢ slot = λ same. false≢true (sym none ∙ ap (has roles) (sym same) ∙ from.2) in
        let pair = last_pair order from.0 from.3.0 slot from.3.1 apart in
        absurd (false≢true (sym (alone pair.0) ∙ pair.1))
