-- The rows of a session before and after one role may do more or less of one operation.
use Rattle.std.proofs.Common.{◌≡◌, ◌≢◌, [], eqb, map, not, ℕ, zero, suc, ◌+◌, ◌*◌, ◌/◌, ◌<◌, ◌≤◌, Bool, true, false, cond, ◌&&◌, ◌||◌, List, map, set, get_or, length, Option, Some, None, inl, inr, refl, sym, ap, ap₂, subst, ◌∙◌, arith}
use Rattle.std.specs.Prelude.{nat_eq, is_some, unwrap_or, bit_or}
use Rattle.std.specs.Map.{lookup}
use Rattle.std.specs.Option.{option_map, option_map_or}
use Rattle.std.proofs.lemmas.Bool.{and_parts, and_from, or_left, or_right, or_cases, cases_eq, cases_lt, le-leb, lt-ltb, eqb-true, false≢true, true≢false}
use Rattle.std.proofs.lemmas.Map.Made.{lookup-map_values}
use Rattle.std.proofs.lemmas.List.{get_or-set_same, get_or-set_other, get_or_past, length-set}
use Rattle.role_hierarchy.specs.Roles.{has, without}
use Rattle.role_hierarchy.specs.RoleLaws.{has-bit_or, has-empty, same_roles}
use Rattle.role_hierarchy.specs.Order.{Order, without_pair, without_slot}
use Rattle.role_hierarchy.specs.Below.{IsOrder, closed, juniors_of}
use Rattle.role_hierarchy.specs.BelowLaws.{closed-with_pair}
use Rattle.permission_core.specs.declared.objects.Operation.{Operation}
use Rattle.permission_core.specs.declared.objects.Object.{Object}
use Rattle.permission_core.specs.declared.objects.ObjectRange.{ObjectRange}
use Rattle.permission_core.specs.declared.objects.TheConstants.{OPERATIONS}
use Rattle.permission_core.specs.Objects.{index_of, number_of, is_object, first_of, size_of, is_bad_range, with_range, without_range}
use Rattle.permission_core.specs.ObjectLaws.{has-with_range}
use Rattle.permission_core.specs.OperationLaws.{index_small}
use Rattle.permission_core.specs.Permissions.{Rows, row_place, cleared_rows}
use Rattle.policy_core.specs.declared.session.Session.{Session}
use Rattle.policy_core.specs.declared.refusal.Refusal.TheVariants.{NoRole, BadObject}
use Rattle.policy_core.specs.State.{PolicyState, is_session, is_role, slot_of}
use Rattle.policy_core.specs.Access.{row_of, some_below, is_reached, reaches, is_here, has_access, reached_roles}
use Rattle.policy_core.specs.Commands.{granted, grant_refusal, revoked, inherited, uninherited, role_gone, kept_authorized}
use Rattle.permission_table.specs.Bits.{SessionAccess, row_in}
use Rattle.permission_table.specs.Rights.{is_in_words, part_of, rows_joined, row_made, with_row_in, granted_to, revoked_from, all_made, followed, refreshed, refreshed_above, made_anew, refreshed_without, all_changed}
use Rattle.permission_table.specs.Unions.{IsUnion}
use Rattle.permission_table.specs.Tables.{TablesState, rows_of}
use Rattle.permission_table.specs.Compiled.{AreCompiled, HasSizes, AreRowsOf, does_reach}
use Rattle.permission_table.proofs.EachLaws.{at_operation}
use Rattle.permission_table.proofs.CompiledLaws.{same_tests, and_false, rows_none, is_some-map, each_rows, all_rows}
use Rattle.permission_table.proofs.WordLaws.{has-part_of}
use Rattle.permission_table.proofs.SomeLaws.{some_below-at, some_below-within, some_below-same}

-- the roles' rows as a function, by its bits
has-rows_joined : (p : PolicyState) (roles : ℕ) (operation : Operation) (number n : ℕ) → has (rows_joined p roles operation n) number ≡ some_below (is_reached p roles operation number) n
unfolding rows_joined some_below
has-rows_joined p roles operation number zero = has-empty number
has-rows_joined p roles operation number (suc n) = by (has roles n) refl (has-rows_joined p roles operation number n)
  where
    or_false : (t : Bool) → t ≡ (t || false)
    or_false true = refl
    or_false false = refl

    by : (t : Bool) → has roles n ≡ t → has (rows_joined p roles operation n) number ≡ some_below (is_reached p roles operation number) n
        → has (cond t (bit_or (rows_joined p roles operation n) (row_of p n operation)) (rows_joined p roles operation n)) number
        ≡ (some_below (is_reached p roles operation number) n || (has roles n && has (row_of p n operation) number))
    by true e so_far =
        has-bit_or (rows_joined p roles operation n) (row_of p n operation) number
        ∙ ap (λ t. t || has (row_of p n operation) number) so_far
        ∙ ap (λ t. some_below (is_reached p roles operation number) n || (t && has (row_of p n operation) number)) (sym e)
    by false e so_far =
        so_far ∙ or_false (some_below (is_reached p roles operation number) n)
        ∙ ap (λ t. some_below (is_reached p roles operation number) n || (t && has (row_of p n operation) number)) (sym e)

pub has-row_made : (p : PolicyState) (roles : ℕ) (operation : Operation) (number : ℕ) → has (row_made p roles operation) number ≡ some_below (is_reached p roles operation number) 256
unfolding row_made
has-row_made p roles operation number = has-rows_joined p roles operation number 256

-- a union is that function
pub made_row : (p : PolicyState) (roles : ℕ) (operation : Operation) (row : ℕ) → ((q : ℕ) → has roles q ≡ true → q < 256) → IsUnion p roles operation row → row ≡ row_made p roles operation
made_row p roles operation row small union = same_roles row (row_made p roles operation) (λ number.
    let test : ℕ → Bool = is_reached p roles operation number in
    same_tests _ _
    (λ h. (let b = (union number).0 h in has-row_made p roles operation number ∙ some_below-at test b.0 256 (small b.0 b.1) (and_from _ _ b.1 b.2)))
    (λ h. (let b = some_below-within test 256 (sym (has-row_made p roles operation number) ∙ h) in let parts = and_parts _ _ b.2 in (union number).1 (b.0, parts.0, parts.1))))

-- CheckAccess of a session by the roles that it reaches
module _ (p : PolicyState) (session : ℕ) where
  access_at : (reach : ℕ) → Some reach ≡ reached_roles p session → (operation : Operation) (object : Object)
      → has_access p session operation object ≡ (is_here p object && some_below (is_reached p reach operation (number_of object)) 256)
  unfolding has_access reaches
  access_at reach reached operation object = by (lookup (nat_eq session) p.sessions) refl reached
    where
      by : (found : Option Session) → lookup (nat_eq session) p.sessions ≡ found → Some reach ≡ option_map (λ s. closed p.order s.active) found
          → has_access p session operation object ≡ (is_here p object && some_below (is_reached p reach operation (number_of object)) 256)
      by None at h = absurd (false≢true (sym (ap is_some h)))
      by (Some s) at h =
          let same : reach ≡ closed p.order s.active = ap (λ o. unwrap_or o reach) h in
          ap (λ (o : Option Session). is_some o && (is_here p object && some_below (is_reached p (closed p.order (unwrap_or o (record { user = []; active = 0 })).active) operation (number_of object)) 256)) at
          ∙ ap (λ r. is_here p object && some_below (is_reached p r operation (number_of object)) 256) (sym same)

  -- each bit of an object that is there is a test of the roles
  pub row_read : (access : SessionAccess) → AreRowsOf p session (Some access) → (operation : Operation) (object : Object) → is_here p object ≡ true
      → has (row_in access operation) (number_of object) ≡ some_below (is_reached p access.reach operation (number_of object)) 256
  row_read access rows operation object here =
      sym (ap (λ t. t && has (row_in access operation) (number_of object)) here)
      ∙ rows.bits operation object ∙ access_at access.reach rows.reached operation object
      ∙ ap (λ t. t && some_below (is_reached p access.reach operation (number_of object)) 256) here

  pub row_says : (access : SessionAccess) → Some access.reach ≡ reached_roles p session → length access.rows ≡ OPERATIONS
      → ((operation : Operation) (object : Object) → is_here p object ≡ true → has (row_in access operation) (number_of object) ≡ some_below (is_reached p access.reach operation (number_of object)) 256)
      → AreRowsOf p session (Some access)
  row_says access reached whole each = record {
    there = ap is_some reached ∙ is_some-map (λ (s : Session). closed p.order s.active) (lookup (nat_eq session) p.sessions);
    reached = reached;
    whole = whole;
    bits = λ operation object. by operation object (is_here p object) refl ∙ sym (access_at access.reach reached operation object);
  }
    where
      by : (operation : Operation) (object : Object) (t : Bool) → is_here p object ≡ t
          → (is_here p object && has (row_in access operation) (number_of object)) ≡ (is_here p object && some_below (is_reached p access.reach operation (number_of object)) 256)
      by operation object true h =
          ap (λ t. t && has (row_in access operation) (number_of object)) h ∙ each operation object h
          ∙ sym (ap (λ t. t && some_below (is_reached p access.reach operation (number_of object)) 256) h)
      by operation object false h =
          ap (λ t. t && has (row_in access operation) (number_of object)) h
          ∙ sym (ap (λ t. t && some_below (is_reached p access.reach operation (number_of object)) 256) h)

-- roles that may do the same in both policies
same_below : (p q : PolicyState) (reach : ℕ) (operation : Operation) (number : ℕ) → ((k : ℕ) → has reach k ≡ true → row_of q k operation ≡ row_of p k operation)
    → some_below (is_reached p reach operation number) 256 ≡ some_below (is_reached q reach operation number) 256
same_below p q reach operation number same = some_below-same (is_reached p reach operation number) (is_reached q reach operation number) (λ k. by k (has reach k) refl) 256
  where
    by : (k : ℕ) (t : Bool) → has reach k ≡ t → (has reach k && has (row_of p k operation) number) ≡ (has reach k && has (row_of q k operation) number)
    by k true e =
        ap (λ t. t && has (row_of p k operation) number) e ∙ ap (λ r. has r number) (sym (same k e))
        ∙ sym (ap (λ t. t && has (row_of q k operation) number) e)
    by k false e = ap (λ t. t && has (row_of p k operation) number) e ∙ sym (ap (λ t. t && has (row_of q k operation) number) e)

-- a session that is not there
none_access : (p : PolicyState) (session : ℕ) → None ≡ reached_roles p session → (operation : Operation) (object : Object) → has_access p session operation object ≡ false
none_access p session none operation object = sym ((rows_none p session none).bits operation object) ∙ and_false (is_here p object)

-- access depends only on the roles that are reached, and on their rows for the operation
pub access_same : (p q : PolicyState) (session : ℕ) (operation : Operation) → q.customers ≡ p.customers → q.vehicles ≡ p.vehicles → reached_roles q session ≡ reached_roles p session
    → ((role : ℕ) → does_reach p session role ≡ true → row_of q role operation ≡ row_of p role operation)
    → (object : Object) → has_access q session operation object ≡ has_access p session operation object
access_same p q session operation customers vehicles reach same object = by (reached_roles p session) refl
  where
    by : (found : Option ℕ) → found ≡ reached_roles p session → has_access q session operation object ≡ has_access p session operation object
    by None none = none_access q session (none ∙ sym reach) operation object ∙ sym (none_access p session none operation object)
    by (Some roles) some =
        access_at q session roles (some ∙ sym reach) operation object
        ∙ ap₂ (λ t u. t && u) (ap₂ (λ c v. is_object c v object) customers vehicles)
        (sym (same_below p q roles operation (number_of object) (λ k in_k. same k (ap (λ (o : Option ℕ). has (unwrap_or o 0) k) (sym some) ∙ in_k))))
        ∙ sym (access_at p session roles some operation object)

-- The two policies differ at most in what this role may do of this operation.
pub record DifferInRow (p q : PolicyState) (role : ℕ) (operation : Operation) : Type 0 where
  pub customers : q.customers ≡ p.customers
  pub vehicles : q.vehicles ≡ p.vehicles
  pub order : q.order ≡ p.order
  pub sessions : q.sessions ≡ p.sessions
  pub rows : (k : ℕ) → k ≢ row_place role operation → get_or q.grants k 0 ≡ get_or p.grants k 0

module _ (p q : PolicyState) (role : ℕ) (operation : Operation) (differ : DifferInRow p q role operation) where
  reached_stays : (session : ℕ) → reached_roles q session ≡ reached_roles p session
  reached_stays session =
      ap₂ (λ (o : Order) (ss : List (ℕ × Session)). option_map (λ s. closed o s.active) (lookup (nat_eq session) ss)) differ.order differ.sessions

  here_stays : (object : Object) → is_here q object ≡ is_here p object
  here_stays object = ap₂ (λ c v. is_object c v object) differ.customers differ.vehicles

  -- the rows of every other role, and of every other operation, are the same
  row_other : (k : ℕ) (other : Operation) → (k ≡ role → index_of other ≢ index_of operation) → row_of q k other ≡ row_of p k other
  row_other k other apart = differ.rows (row_place k other) (λ e.
      let one : k ≡ role = omega (arith, e, index_small other, index_small operation) in
      let two : index_of other ≡ index_of operation = omega (arith, e, one) in
      apart one two)

  -- a session that does not reach the role, or another operation of one that does
  stays : (session : ℕ) (access : SessionAccess) → AreRowsOf p session (Some access) → (other : Operation) (object : Object) → is_here q object ≡ true
      → (has access.reach role ≡ true → index_of other ≢ index_of operation)
      → has (row_in access other) (number_of object) ≡ some_below (is_reached q access.reach other (number_of object)) 256
  stays session access rows other object here apart =
      row_read p session access rows other object (sym (here_stays object) ∙ here)
      ∙ same_below p q access.reach other (number_of object) (λ k in_k. row_other k other (λ e. apart (ap (has access.reach) (sym e) ∙ in_k)))

  -- with another row for the operation, whose bits are right
  another : (session : ℕ) (access : SessionAccess) → AreRowsOf p session (Some access) → (row : ℕ)
      → ((object : Object) → is_here q object ≡ true → has row (number_of object) ≡ some_below (is_reached q access.reach operation (number_of object)) 256)
      → AreRowsOf q session (Some (with_row_in access operation row))
  another session access rows row right =
      row_says q session (with_row_in access operation row) (rows.reached ∙ sym (reached_stays session))
      (length-set access.rows (index_of operation) row ∙ rows.whole)
      (λ other object here. elim (cases_eq (index_of other) (index_of operation)) [
        | inl same ↦
            (ap (λ k. has (get_or (set access.rows (index_of operation) row) k 0) (number_of object)) same
            ∙ ap (λ r. has r (number_of object)) (get_or-set_same access.rows (index_of operation) row 0 (omega (arith, rows.whole, index_small operation)))
            ∙ right object here
            ∙ ap (λ k. some_below (λ b. has access.reach b && has (get_or q.grants (OPERATIONS * b + k) 0) (number_of object)) 256) (sym same))
        | inr apart ↦
            (ap (λ r. has r (number_of object)) (get_or-set_other access.rows (index_of operation) (index_of other) row 0 apart)
            ∙ stays session access rows other object here (λ in_role. apart))
      ])

  unconcerned : (session : ℕ) (access : SessionAccess) → AreRowsOf p session (Some access) → has access.reach role ≡ false → AreRowsOf q session (Some access)
  unconcerned session access rows none =
      row_says q session access (rows.reached ∙ sym (reached_stays session)) rows.whole
      (λ other object here. stays session access rows other object here (λ in_role. absurd (true≢false (sym in_role ∙ none))))

  -- the role may do less, or more
  pub revoked_rows : (session : ℕ) (found : Option SessionAccess) → AreRowsOf p session found → AreRowsOf q session (option_map (revoked_from q role operation session) found)
  unfolding revoked_from
  revoked_rows session None rows = rows_none q session (rows.reached ∙ sym (reached_stays session))
  revoked_rows session (Some access) rows = by (has access.reach role) refl
    where
      by : (t : Bool) → has access.reach role ≡ t → AreRowsOf q session (Some (cond t (with_row_in access operation (row_made q access.reach operation)) access))
      by true e = another session access rows (row_made q access.reach operation) (λ object here. has-row_made q access.reach operation (number_of object))
      by false e = unconcerned session access rows e

  module _ (in_role : role < 256) (words : ℕ × ℕ) (grows : (number : ℕ) → has (row_of p role operation) number ≡ true → has (row_of q role operation) number ≡ true)
      (apart : (number : ℕ) → is_in_words words.0 words.1 number ≡ false → has (row_of q role operation) number ≡ has (row_of p role operation) number) where
    gained : (session : ℕ) (access : SessionAccess) → AreRowsOf p session (Some access) → has access.reach role ≡ true → (object : Object) → is_here q object ≡ true
        → has (bit_or (row_in access operation) (part_of words.0 words.1 (row_of q role operation))) (number_of object) ≡ some_below (is_reached q access.reach operation (number_of object)) 256
    gained session access rows reached object here =
        let number = number_of object in
        let before : ℕ → Bool = is_reached p access.reach operation number in
        let after : ℕ → Bool = is_reached q access.reach operation number in
        let read = row_read p session access rows operation object (sym (here_stays object) ∙ here) in
        has-bit_or (row_in access operation) (part_of words.0 words.1 (row_of q role operation)) number
        ∙ ap (λ t. has (row_in access operation) number || t) (has-part_of words.0 words.1 (row_of q role operation) number)
        ∙ same_tests _ _
        (λ h. elim (or_cases _ _ h) [
          | inl old ↦
              (let b = some_below-within before 256 (sym read ∙ old) in
              let parts = and_parts _ _ b.2 in
              some_below-at after b.0 256 b.1 (and_from _ _ parts.0 (carried b.0 number parts.1)))
          | inr new ↦ some_below-at after role 256 in_role (and_from _ _ reached (and_parts _ _ new).0)
        ])
        (λ h. (let b = some_below-within after 256 h in
        let parts = and_parts _ _ b.2 in
        elim (cases_eq b.0 role) [
          | inl e ↦ by_words access reached number read (subst (λ k. has (row_of q k operation) number ≡ true) e parts.1) (is_in_words words.0 words.1 number) refl
          | inr other ↦ or_left _ _ (read ∙ some_below-at before b.0 256 b.1 (and_from _ _ parts.0 (ap (λ r. has r number) (sym (row_other b.0 operation (λ e. absurd (other e)))) ∙ parts.1)))
        ]))
      where
        by_words : (access : SessionAccess) → has access.reach role ≡ true → (number : ℕ) → has (row_in access operation) number ≡ some_below (is_reached p access.reach operation number) 256
            → has (row_of q role operation) number ≡ true → (t : Bool) → is_in_words words.0 words.1 number ≡ t
            → (has (row_in access operation) number || (has (row_of q role operation) number && is_in_words words.0 words.1 number)) ≡ true
        by_words access reached number read h true e = or_right _ _ (and_from _ _ h e)
        by_words access reached number read h false e =
            or_left _ _ (read ∙ some_below-at (is_reached p access.reach operation number) role 256 in_role (and_from _ _ reached (sym (apart number e) ∙ h)))

        carried : (k number : ℕ) → has (row_of p k operation) number ≡ true → has (row_of q k operation) number ≡ true
        carried k number h = elim (cases_eq k role) [
          | inl e ↦ subst (λ x. has (row_of q x operation) number ≡ true) (sym e) (grows number (subst (λ x. has (row_of p x operation) number ≡ true) e h))
          | inr apart ↦ ap (λ r. has r number) (row_other k operation (λ e. absurd (apart e))) ∙ h
        ]

    pub granted_rows : (session : ℕ) (found : Option SessionAccess) → AreRowsOf p session found → AreRowsOf q session (option_map (granted_to q role operation words session) found)
    unfolding granted_to
    granted_rows session None rows = rows_none q session (rows.reached ∙ sym (reached_stays session))
    granted_rows session (Some access) rows = by (has access.reach role) refl
      where
        by : (t : Bool) → has access.reach role ≡ t → AreRowsOf q session (Some (cond t (with_row_in access operation (bit_or (row_in access operation) (part_of words.0 words.1 (row_of q role operation)))) access))
        by true e = another session access rows (bit_or (row_in access operation) (part_of words.0 words.1 (row_of q role operation))) (gained session access rows e)
        by false e = unconcerned session access rows e

-- the two commands
module _ (p : PolicyState) (role : List ℕ) (operation : Operation) (range : ObjectRange) where
  abbrev place : ℕ
  place = row_place (slot_of p role) operation

  pub differ_granted : DifferInRow p (granted p role operation range) (slot_of p role) operation
  differ_granted = record {
    customers = refl;
    vehicles = refl;
    order = refl;
    sessions = refl;
    rows = λ k other. get_or-set_other p.grants place k (with_range (row_of p (slot_of p role) operation) (first_of range) (size_of range)) 0 other;
  }

  pub differ_revoked : DifferInRow p (revoked p role operation range) (slot_of p role) operation
  differ_revoked = record {
    customers = refl;
    vehicles = refl;
    order = refl;
    sessions = refl;
    rows = λ k other. get_or-set_other p.grants place k (without_range (row_of p (slot_of p role) operation) (first_of range) (size_of range)) 0 other;
  }

  pub grows_granted : (number : ℕ) → has (row_of p (slot_of p role) operation) number ≡ true → has (row_of (granted p role operation range) (slot_of p role) operation) number ≡ true
  grows_granted number h = elim (cases_lt place (length p.grants)) [
    | inl within ↦
        (let old = row_of p (slot_of p role) operation in
        ap (λ r. has r number) (get_or-set_same p.grants place (with_range old (first_of range) (size_of range)) 0 within)
        ∙ (has-with_range old (first_of range) (size_of range) number).1 (inl h))
    | inr past ↦ absurd (false≢true (sym (ap (λ r. has r number) (get_or_past p.grants place 0 past) ∙ has-empty number) ∙ h))
  ]

-- a session that reaches the roles that it reached, or others
made_says : (q : PolicyState) (session roles : ℕ) → Some roles ≡ reached_roles q session → AreRowsOf q session (Some (all_made q roles))
unfolding all_made
made_says q session roles reached =
    row_says q session (all_made q roles) reached refl
    (λ operation object here. ap (λ r. has r (number_of object)) (at_operation (row_made q roles) operation) ∙ has-row_made q roles operation (number_of object))

module _ (p q : PolicyState) (customers : q.customers ≡ p.customers) (vehicles : q.vehicles ≡ p.vehicles) (session : ℕ) (access : SessionAccess) (rows : AreRowsOf p session (Some access))
    (same : (k : ℕ) (operation : Operation) → has access.reach k ≡ true → row_of q k operation ≡ row_of p k operation) where
  as_before : Some access.reach ≡ reached_roles q session → AreRowsOf q session (Some access)
  as_before reached = row_says q session access reached rows.whole (λ operation object here.
      row_read p session access rows operation object (sym (ap₂ (λ c v. is_object c v object) customers vehicles) ∙ here)
      ∙ same_below p q access.reach operation (number_of object) (λ k. same k operation))

  refreshed_rows : is_session q session ≡ is_session p session → AreRowsOf q session (Some (refreshed q session access))
  unfolding refreshed followed
  refreshed_rows there = by (reached_roles q session) refl
    where
      by_reach : (roles : ℕ) → Some roles ≡ reached_roles q session → (t : Bool) → eqb roles access.reach ≡ t → AreRowsOf q session (Some (cond t access (all_made q roles)))
      by_reach roles reached true e = as_before (ap Some (sym (eqb-true roles access.reach e)) ∙ reached)
      by_reach roles reached false e = made_says q session roles reached

      by : (found : Option ℕ) → found ≡ reached_roles q session → AreRowsOf q session (Some (option_map_or (λ roles. followed q roles access) found access))
      by None none =
          let gone : false ≡ true =
          ap is_some none ∙ is_some-map (λ (s : Session). closed q.order s.active) (lookup (nat_eq session) q.sessions) ∙ there ∙ sym rows.there in
          absurd (false≢true gone)
      by (Some roles) reached = by_reach roles reached (eqb roles access.reach) refl

-- no session where there was none
still_none : (p q : PolicyState) (session : ℕ) → is_session q session ≡ is_session p session → AreRowsOf p session None → AreRowsOf q session None
still_none p q session there rows = rows_none q session (by (lookup (nat_eq session) q.sessions) refl)
  where
    by : (found : Option Session) → lookup (nat_eq session) q.sessions ≡ found → None ≡ option_map (λ s. closed q.order s.active) (lookup (nat_eq session) q.sessions)
    by None at = sym (ap (option_map (λ s. closed q.order s.active)) at)
    by (Some s) at = absurd (false≢true (rows.there ∙ sym there ∙ ap is_some at))

-- one more pair
module _ (p : PolicyState) (senior junior : List ℕ) (is : IsOrder p.order) (in_senior : slot_of p senior < 256) (in_junior : slot_of p junior < 256) (session : ℕ) where
  pub inherited_rows : (found : Option SessionAccess) → AreRowsOf p session found
      → AreRowsOf (inherited p senior junior) session (option_map (refreshed_above (inherited p senior junior) (slot_of p senior) session) found)
  unfolding refreshed_above
  inherited_rows None rows = still_none p (inherited p senior junior) session refl rows
  inherited_rows (Some access) rows = by (has access.reach (slot_of p senior)) refl
    where
      q : PolicyState
      q = inherited p senior junior

      stays_below : has access.reach (slot_of p senior) ≡ false → (found : Option Session) → Some access.reach ≡ option_map (λ s. closed p.order s.active) found → Some access.reach ≡ option_map (λ s. closed q.order s.active) found
      stays_below apart None reached = absurd (false≢true (sym (ap is_some reached)))
      stays_below apart (Some s) reached =
          let of : access.reach ≡ closed p.order s.active = ap (λ o. unwrap_or o access.reach) reached in
          let none : has (closed p.order s.active) (slot_of p senior) ≡ false = ap (λ r. has r (slot_of p senior)) (sym of) ∙ apart in
          reached ∙ ap Some (sym (closed-with_pair p.order is (slot_of p senior) (slot_of p junior) in_senior in_junior s.active
          ∙ ap (λ t. cond t (bit_or (closed p.order s.active) (juniors_of p.order (slot_of p junior))) (closed p.order s.active)) none))

      by : (t : Bool) → has access.reach (slot_of p senior) ≡ t → AreRowsOf q session (Some (cond t (refreshed q session access) access))
      by true e = refreshed_rows p q refl refl session access rows (λ k operation in_k. refl) refl
      by false e = as_before p q refl refl session access rows (λ k operation in_k. refl) (stays_below e (lookup (nat_eq session) p.sessions) rows.reached)

-- one pair less
module _ (p : PolicyState) (senior junior : List ℕ) (session : ℕ) where
  still_there : is_session (uninherited p senior junior) session ≡ is_session p session
  still_there =
      let k : Session → Session = kept_authorized p.users (without_pair p.order (slot_of p senior) (slot_of p junior)) in
      ap is_some (lookup-map_values k (nat_eq session) p.sessions) ∙ is_some-map k (lookup (nat_eq session) p.sessions)

  pub uninherited_rows : (found : Option SessionAccess) → AreRowsOf p session found
      → AreRowsOf (uninherited p senior junior) session (option_map (refreshed (uninherited p senior junior) session) found)
  uninherited_rows None rows = still_none p (uninherited p senior junior) session still_there rows
  uninherited_rows (Some access) rows = refreshed_rows p (uninherited p senior junior) refl refl session access rows (λ k operation in_k. refl) still_there

-- outside of the range a grant changes nothing
apart_granted : (p : PolicyState) (role : List ℕ) (operation : Operation) (range : ObjectRange) (words : ℕ × ℕ)
    → ((number : ℕ) → first_of range ≤ number → number < first_of range + size_of range → (words.0 ≤ number / 64) × (number / 64 < words.1))
    → (number : ℕ) → is_in_words words.0 words.1 number ≡ false → has (row_of (granted p role operation range) (slot_of p role) operation) number ≡ has (row_of p (slot_of p role) operation) number
apart_granted p role operation range words whole number out = elim (cases_lt (row_place (slot_of p role) operation) (length p.grants)) [
  | inl within ↦
      (let old = row_of p (slot_of p role) operation in
      ap (λ r. has r number) (get_or-set_same p.grants (row_place (slot_of p role) operation) (with_range old (first_of range) (size_of range)) 0 within)
      ∙ same_tests _ _
      (λ h. elim ((has-with_range old (first_of range) (size_of range) number).0 h) [
        | inl before ↦ before
        | inr r ↦ (let w = whole number r.0 r.1 in absurd (true≢false (sym (and_from _ _ (le-leb words.0 (number / 64) w.0) (lt-ltb (number / 64) words.1 w.1)) ∙ out)))
      ])
      (λ h. (has-with_range old (first_of range) (size_of range) number).1 (inl h)))
  | inr past ↦
      ap (λ r. has r number) (get_or_past (set p.grants (row_place (slot_of p role) operation) _) (row_place (slot_of p role) operation) 0
      (omega (arith, past, length-set p.grants (row_place (slot_of p role) operation) (with_range (row_of p (slot_of p role) operation) (first_of range) (size_of range))))
      ∙ sym (get_or_past p.grants (row_place (slot_of p role) operation) 0 past))
]

-- the rows of other roles than the one that is gone
cleared_other : (rows : Rows) (slot k i n : ℕ) → k ≢ slot → i < OPERATIONS → n ≤ OPERATIONS → get_or (cleared_rows rows slot n) (OPERATIONS * k + i) 0 ≡ get_or rows (OPERATIONS * k + i) 0
unfolding cleared_rows
cleared_other rows slot k i zero apart small few = refl
cleared_other rows slot k i (suc n) apart small few =
    get_or-set_other (cleared_rows rows slot n) (OPERATIONS * slot + n) (OPERATIONS * k + i) 0 0 (λ e. apart (omega (arith, e, small, few)))
    ∙ cleared_other rows slot k i n apart small (omega (arith, few))

-- one role less
module _ (p : PolicyState) (role : List ℕ) (session : ℕ) where
  abbrev gone : PolicyState
  gone = role_gone p role

  there_without : is_session gone session ≡ is_session p session
  there_without =
      let k : Session → Session = kept_authorized (map (λ u. (u.0, without u.1 (slot_of p role))) p.users) (without_slot p.order (slot_of p role)) in
      ap is_some (lookup-map_values k (nat_eq session) p.sessions) ∙ is_some-map k (lookup (nat_eq session) p.sessions)

  made_without : (access : SessionAccess) → AreRowsOf p session (Some access) → AreRowsOf gone session (Some (made_anew gone session access))
  unfolding made_anew
  made_without access rows = by (reached_roles gone session) refl
    where
      by : (found : Option ℕ) → found ≡ reached_roles gone session → AreRowsOf gone session (Some (option_map_or (all_made gone) found access))
      by None none =
          let lost : false ≡ true =
          ap is_some none ∙ is_some-map (λ (s : Session). closed gone.order s.active) (lookup (nat_eq session) gone.sessions) ∙ there_without ∙ sym rows.there in
          absurd (false≢true lost)
      by (Some roles) reached = made_says gone session roles reached

  pub deleted_rows : (found : Option SessionAccess) → AreRowsOf p session found → AreRowsOf gone session (option_map (refreshed_without gone (slot_of p role) session) found)
  unfolding refreshed_without
  deleted_rows None rows = still_none p gone session there_without rows
  deleted_rows (Some access) rows = by (has access.reach (slot_of p role)) refl
    where
      by : (t : Bool) → has access.reach (slot_of p role) ≡ t → AreRowsOf gone session (Some (cond t (made_anew gone session access) (refreshed gone session access)))
      by true e = made_without access rows
      by false e = refreshed_rows p gone refl refl session access rows
          (λ k operation in_k. cleared_other p.grants (slot_of p role) k (index_of operation) OPERATIONS (λ same. true≢false (sym in_k ∙ ap (has access.reach) same ∙ e)) (index_small operation) (omega arith))
          there_without

-- what each change makes of a session, by cases
module _ (p : PolicyState) (role : ℕ) (operation : Operation) (words : ℕ × ℕ) (session : ℕ) (access : SessionAccess) where
  pub granted_so : has access.reach role ≡ true → with_row_in access operation (bit_or (row_in access operation) (part_of words.0 words.1 (row_of p role operation))) ≡ granted_to p role operation words session access
  unfolding granted_to
  granted_so e = sym (ap (λ t. cond t (with_row_in access operation (bit_or (row_in access operation) (part_of words.0 words.1 (row_of p role operation)))) access) e)

  pub granted_not : has access.reach role ≡ false → access ≡ granted_to p role operation words session access
  unfolding granted_to
  granted_not e = sym (ap (λ t. cond t (with_row_in access operation (bit_or (row_in access operation) (part_of words.0 words.1 (row_of p role operation)))) access) e)

module _ (p : PolicyState) (role : ℕ) (operation : Operation) (session : ℕ) (access : SessionAccess) where
  pub revoked_so : has access.reach role ≡ true → with_row_in access operation (row_made p access.reach operation) ≡ revoked_from p role operation session access
  unfolding revoked_from
  revoked_so e = sym (ap (λ t. cond t (with_row_in access operation (row_made p access.reach operation)) access) e)

  pub revoked_not : has access.reach role ≡ false → access ≡ revoked_from p role operation session access
  unfolding revoked_from
  revoked_not e = sym (ap (λ t. cond t (with_row_in access operation (row_made p access.reach operation)) access) e)

module _ (p : PolicyState) (session : ℕ) (access : SessionAccess) where
  pub followed_same : (roles : ℕ) → eqb roles access.reach ≡ true → access ≡ followed p roles access
  unfolding followed
  followed_same roles e = sym (ap (λ t. cond t access (all_made p roles)) e)

  pub followed_other : (roles : ℕ) → eqb roles access.reach ≡ false → all_made p roles ≡ followed p roles access
  unfolding followed
  followed_other roles e = sym (ap (λ t. cond t access (all_made p roles)) e)

  pub made_none : None ≡ reached_roles p session → made_anew p session access ≡ access
  unfolding made_anew
  made_none none = sym (ap (λ o. option_map_or (all_made p) o access) none)

  pub made_some : (roles : ℕ) → Some roles ≡ reached_roles p session → all_made p roles ≡ made_anew p session access
  unfolding made_anew
  made_some roles some = ap (λ o. option_map_or (all_made p) o access) some

  pub without_so : (role : ℕ) → has access.reach role ≡ true → made_anew p session access ≡ refreshed_without p role session access
  unfolding refreshed_without
  without_so role e = sym (ap (λ t. cond t (made_anew p session access) (refreshed p session access)) e)

  pub without_not : (role : ℕ) → has access.reach role ≡ false → refreshed p session access ≡ refreshed_without p role session access
  unfolding refreshed_without
  without_not role e = sym (ap (λ t. cond t (made_anew p session access) (refreshed p session access)) e)

  pub refreshed_none : None ≡ reached_roles p session → refreshed p session access ≡ access
  unfolding refreshed
  refreshed_none none = sym (ap (λ o. option_map_or (λ roles. followed p roles access) o access) none)

  pub refreshed_some : (roles : ℕ) → Some roles ≡ reached_roles p session → followed p roles access ≡ refreshed p session access
  unfolding refreshed
  refreshed_some roles some = ap (λ o. option_map_or (λ r. followed p r access) o access) some

  pub refreshed_so : (role : ℕ) → has access.reach role ≡ true → refreshed p session access ≡ refreshed_above p role session access
  unfolding refreshed_above
  refreshed_so role e = sym (ap (λ t. cond t (refreshed p session access) access) e)

  pub refreshed_not : (role : ℕ) → has access.reach role ≡ false → refreshed_above p role session access ≡ access
  unfolding refreshed_above
  refreshed_not role e = ap (λ t. cond t (refreshed p session access) access) e

-- the range of a grant that is not refused is a good one
pub good_range : (p : PolicyState) (role : List ℕ) (range : ObjectRange) → grant_refusal p role range ≡ None → is_bad_range p.customers p.vehicles range ≡ false
unfolding grant_refusal
good_range p role range free = by_role (is_role p role) free
  where
    by_range : (t : Bool) → cond t (Some BadObject) None ≡ None → t ≡ false
    by_range true h = absurd (true≢false (ap is_some h))
    by_range false h = refl

    by_role : (t : Bool) → cond (not t) (Some NoRole) (cond (is_bad_range p.customers p.vehicles range) (Some BadObject) None) ≡ None → is_bad_range p.customers p.vehicles range ≡ false
    by_role true h = by_range (is_bad_range p.customers p.vehicles range) h
    by_role false h = absurd (true≢false (ap is_some h))

-- the tables after the commands
abbrev pub with_all : TablesState → (ℕ → SessionAccess → SessionAccess) → TablesState
with_all t f = record t { rows = all_changed f t.rows }

module _ (t : TablesState) (p : PolicyState) (role : List ℕ) (operation : Operation) (range : ObjectRange) (slot : ℕ) (are : AreCompiled t p) where
  pub granted_tables : (q : PolicyState) (words : ℕ × ℕ) → q ≡ granted p role operation range → HasSizes q t → slot < 256 → slot ≡ slot_of q role
      → ((number : ℕ) → first_of range ≤ number → number < first_of range + size_of range → (words.0 ≤ number / 64) × (number / 64 < words.1)) → AreCompiled (with_all t (granted_to q slot operation words)) q
  granted_tables q words after sizes small at whole =
      let of : slot ≡ slot_of p role = at ∙ ap (λ (x : PolicyState). slot_of x role) after in
      let differ : DifferInRow p q slot operation = subst (λ (x : PolicyState). DifferInRow p x slot operation) (sym after) (subst (λ s. DifferInRow p (granted p role operation range) s operation) (sym of) (differ_granted p role operation range)) in
      let grows : (number : ℕ) → has (row_of p slot operation) number ≡ true → has (row_of q slot operation) number ≡ true =
      subst (λ (x : PolicyState). (number : ℕ) → has (row_of p slot operation) number ≡ true → has (row_of x slot operation) number ≡ true) (sym after)
      (subst (λ s. (number : ℕ) → has (row_of p s operation) number ≡ true → has (row_of (granted p role operation range) s operation) number ≡ true) (sym of) (grows_granted p role operation range)) in
      let apart : (number : ℕ) → is_in_words words.0 words.1 number ≡ false → has (row_of q slot operation) number ≡ has (row_of p slot operation) number =
      subst (λ (x : PolicyState). (number : ℕ) → is_in_words words.0 words.1 number ≡ false → has (row_of x slot operation) number ≡ has (row_of p slot operation) number) (sym after)
      (subst (λ s. (number : ℕ) → is_in_words words.0 words.1 number ≡ false → has (row_of (granted p role operation range) s operation) number ≡ has (row_of p s operation) number) (sym of) (apart_granted p role operation range words whole)) in
      all_rows t q sizes (granted_to q slot operation words) (λ session.
      granted_rows p q slot operation differ small words grows apart session (rows_of t session)
      (each_rows t p (record { customers = sym differ.customers ∙ sizes.customers; vehicles = sym differ.vehicles ∙ sizes.vehicles }) are session))

  pub revoked_tables : (q : PolicyState) → q ≡ revoked p role operation range → HasSizes q t → slot ≡ slot_of q role → AreCompiled (with_all t (revoked_from q slot operation)) q
  revoked_tables q after sizes at =
      let of : slot ≡ slot_of p role = at ∙ ap (λ (x : PolicyState). slot_of x role) after in
      let differ : DifferInRow p q slot operation = subst (λ (x : PolicyState). DifferInRow p x slot operation) (sym after) (subst (λ s. DifferInRow p (revoked p role operation range) s operation) (sym of) (differ_revoked p role operation range)) in
      all_rows t q sizes (revoked_from q slot operation) (λ session.
      revoked_rows p q slot operation differ session (rows_of t session)
      (each_rows t p (record { customers = sym differ.customers ∙ sizes.customers; vehicles = sym differ.vehicles ∙ sizes.vehicles }) are session))

module _ (t : TablesState) (p : PolicyState) (senior junior : List ℕ) (are : AreCompiled t p) where
  pub inherited_tables : (q : PolicyState) (above below : ℕ) → q ≡ inherited p senior junior → HasSizes q t → IsOrder p.order → above < 256 → above ≡ slot_of q senior → below < 256 → below ≡ slot_of q junior
      → AreCompiled (with_all t (refreshed_above q above)) q
  inherited_tables q above below after sizes is small at small_junior at_junior =
      let of : above ≡ slot_of p senior = at ∙ ap (λ (x : PolicyState). slot_of x senior) after in
      let of_junior : below ≡ slot_of p junior = at_junior ∙ ap (λ (x : PolicyState). slot_of x junior) after in
      let P : PolicyState → Type 0 = λ x. HasSizes x t → AreCompiled (with_all t (refreshed_above x above)) x in
      subst P (sym after) (λ fits.
      subst (λ s. AreCompiled (with_all t (refreshed_above (inherited p senior junior) s)) (inherited p senior junior)) (sym of)
      (all_rows t (inherited p senior junior) fits (refreshed_above (inherited p senior junior) (slot_of p senior)) (λ session.
      inherited_rows p senior junior is (subst (λ s. s < 256) of small) (subst (λ s. s < 256) of_junior small_junior) session (rows_of t session)
      (each_rows t p (record { customers = fits.customers; vehicles = fits.vehicles }) are session)))) sizes

  pub uninherited_tables : (q : PolicyState) → q ≡ uninherited p senior junior → HasSizes q t → AreCompiled (with_all t (refreshed q)) q
  uninherited_tables q after sizes =
      let P : PolicyState → Type 0 = λ x. HasSizes x t → AreCompiled (with_all t (refreshed x)) x in
      subst P (sym after) (λ fits.
      all_rows t (uninherited p senior junior) fits (refreshed (uninherited p senior junior)) (λ session.
      uninherited_rows p senior junior session (rows_of t session)
      (each_rows t p (record { customers = fits.customers; vehicles = fits.vehicles }) are session))) sizes

module _ (t : TablesState) (p : PolicyState) (role : List ℕ) (are : AreCompiled t p) where
  pub deleted_tables : (q : PolicyState) (slot : ℕ) → q ≡ role_gone p role → slot ≡ slot_of p role → HasSizes q t → AreCompiled (with_all t (refreshed_without q slot)) q
  deleted_tables q slot after of sizes =
      let P : PolicyState → Type 0 = λ x. HasSizes x t → AreCompiled (with_all t (refreshed_without x slot)) x in
      subst P (sym after) (λ fits.
      subst (λ s. AreCompiled (with_all t (refreshed_without (role_gone p role) s)) (role_gone p role)) (sym of)
      (all_rows t (role_gone p role) fits (refreshed_without (role_gone p role) (slot_of p role)) (λ session.
      deleted_rows p role session (rows_of t session)
      (each_rows t p (record { customers = fits.customers; vehicles = fits.vehicles }) are session)))) sizes

-- a session that does not reach the role is left as it is
pub granted_same : (p : PolicyState) (role : ℕ) (operation : Operation) (words : ℕ × ℕ) (session : ℕ) (access : SessionAccess) → has access.reach role ≡ false → granted_to p role operation words session access ≡ access
unfolding granted_to
granted_same p role operation words session access h =
    ap (λ t. cond t (with_row_in access operation (bit_or (row_in access operation) (part_of words.0 words.1 (row_of p role operation)))) access) h

pub revoked_same : (p : PolicyState) (role : ℕ) (operation : Operation) (session : ℕ) (access : SessionAccess) → has access.reach role ≡ false → revoked_from p role operation session access ≡ access
unfolding revoked_from
revoked_same p role operation session access h = ap (λ t. cond t (with_row_in access operation (row_made p access.reach operation)) access) h

pub above_same : (p : PolicyState) (role session : ℕ) (access : SessionAccess) → has access.reach role ≡ false → refreshed_above p role session access ≡ access
unfolding refreshed_above
above_same p role session access h = ap (λ t. cond t (refreshed p session access) access) h

-- what a session reaches after a change of its rows
pub granted_reach : (p : PolicyState) (role : ℕ) (operation : Operation) (words : ℕ × ℕ) (session : ℕ) (access : SessionAccess) → (granted_to p role operation words session access).reach ≡ access.reach
unfolding granted_to
granted_reach p role operation words session access =
    by (has access.reach role)
  where
    by : (t : Bool) → (cond t (with_row_in access operation (bit_or (row_in access operation) (part_of words.0 words.1 (row_of p role operation)))) access).reach ≡ access.reach
    by true = refl
    by false = refl

pub revoked_reach : (p : PolicyState) (role : ℕ) (operation : Operation) (session : ℕ) (access : SessionAccess) → (revoked_from p role operation session access).reach ≡ access.reach
unfolding revoked_from
revoked_reach p role operation session access = by (has access.reach role)
  where
    by : (t : Bool) → (cond t (with_row_in access operation (row_made p access.reach operation)) access).reach ≡ access.reach
    by true = refl
    by false = refl

pub followed_reach : (p : PolicyState) (roles : ℕ) (access : SessionAccess) → (followed p roles access).reach ≡ roles
unfolding followed all_made
followed_reach p roles access = by (nat_eq roles access.reach) refl
  where
    by : (t : Bool) → nat_eq roles access.reach ≡ t → (cond t access (all_made p roles)).reach ≡ roles
    by true h = sym (eqb-true roles access.reach h)
    by false h = refl

pub made_reach : (p : PolicyState) (roles : ℕ) → (all_made p roles).reach ≡ roles
unfolding all_made
made_reach p roles = refl
