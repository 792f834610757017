-- Rows against CheckAccess, and tables after a change of the policy.
use Rattle.std.proofs.Common.{◌≡◌, ℕ, ◌&&◌, Bool, true, false, ◌||◌, ◌+◌, ◌<◌, length, take, get_or, List, ◌++◌, ◌∷◌, [], Option, Some, None, cond, sym, refl, ap, ◌∙◌, subst}
use Rattle.std.specs.Prelude.{nat_eq, is_some, unwrap_or}
use Rattle.std.specs.Map.{lookup}
use Rattle.std.specs.Option.{option_or, option_map}
use Rattle.std.proofs.lemmas.Bool.{and_parts, and_from, eqb-true, false≢true, true≢false}
use Rattle.std.proofs.lemmas.List.Folds.{list_any_more}
use Rattle.role_hierarchy.specs.Roles.{has}
use Rattle.role_hierarchy.specs.Below.{closed}
use Rattle.permission_core.specs.declared.objects.Operation.{Operation}
use Rattle.permission_core.specs.declared.objects.Object.{Object}
use Rattle.permission_core.specs.Objects.{number_of, is_object}
use Rattle.policy_core.specs.declared.session.Session.{Session}
use Rattle.policy_core.specs.State.{PolicyState}
use Rattle.policy_core.specs.Access.{some_below, is_reached, reaches, is_here, has_access, reached_roles}
use Rattle.permission_table.specs.Bits.{SessionAccess, row_in, allowed_by}
use Rattle.permission_table.specs.Tables.{TablesState, RowsState, rows_of, rows_after, is_among}
use Rattle.permission_table.specs.Compiled.{AreCompiled, WillBeCompiled, SameAccessBut, HasSizes, HasAllRows, AreRowsOf, AreChangesOf, reach_in}
use Rattle.permission_table.specs.Unions.{AreUnions}
use Rattle.permission_table.proofs.SomeLaws.{some_below-at, some_below-found}
use Rattle.permission_table.specs.Rights.{all_changed}
use Rattle.permission_table.proofs.PlaceLaws.{lookup-changed}
use Rattle.permission_table.proofs.PutLaws.{lookup-push}

pub same_tests : (t u : Bool) → (t ≡ true → u ≡ true) → (u ≡ true → t ≡ true) → t ≡ u
same_tests true u f g = sym (f refl)
same_tests false true f g = g refl
same_tests false false f g = refl

pub is_some-map : {A B : Type 0} (f : A → B) (o : Option A) → is_some (option_map f o) ≡ is_some o
is_some-map f None = refl
is_some-map f (Some x) = refl

pub and_false : (t : Bool) → (t && false) ≡ false
and_false true = refl
and_false false = refl

-- the rows of the roles that a session reaches say CheckAccess
module _ (p : PolicyState) (session : ℕ) where
  bits_at : (s : Session) → lookup (nat_eq session) p.sessions ≡ Some s → (access : SessionAccess) → AreUnions p (closed p.order s.active) access → ((q : ℕ) → has (closed p.order s.active) q ≡ true → q < 256) →
      (operation : Operation) (object : Object) → allowed_by p.customers p.vehicles (Some access) operation object ≡ has_access p session operation object
  unfolding has_access reaches
  bits_at s at access unions small operation object =
      let test : ℕ → Bool = is_reached p (closed p.order s.active) operation (number_of object) in
      let union = unions.rows operation (number_of object) in
      let same : has (row_in access operation) (number_of object) ≡ some_below test 256 = same_tests _ _
      (λ h. (let b = union.0 h in some_below-at test b.0 256 (small b.0 b.1) (and_from _ _ b.1 b.2)))
      (λ h. (let b = some_below-found test 256 h in let parts = and_parts _ _ b.1 in union.1 (b.0, parts.0, parts.1))) in
      ap (λ t. is_here p object && t) same
      ∙ ap (λ (o : Option Session). is_some o && (is_here p object && some_below (is_reached p (closed p.order (unwrap_or o (record { user = []; active = 0 })).active) operation (number_of object)) 256)) (sym at)

  pub rows_at : (roles : ℕ) (access : SessionAccess) → Some roles ≡ reached_roles p session → ((q : ℕ) → has roles q ≡ true → q < 256) → AreUnions p roles access → AreRowsOf p session (Some access)
  rows_at roles access reached small unions = at_session (lookup (nat_eq session) p.sessions) refl reached
    where
      at_session : (found : Option Session) → lookup (nat_eq session) p.sessions ≡ found → Some roles ≡ option_map (λ s. closed p.order s.active) found → AreRowsOf p session (Some access)
      at_session None at reach = absurd (false≢true (sym (ap is_some reach)))
      at_session (Some s) at reach =
          let same : roles ≡ closed p.order s.active = ap (λ o. unwrap_or o roles) reach in
          record {
            there = ap is_some (sym at);
            reached = ap Some unions.reach ∙ reached;
            whole = unions.whole;
            bits = bits_at s at access (subst (λ r. AreUnions p r access) same unions) (subst (λ r. (q : ℕ) → has r q ≡ true → q < 256) same small);
          }

  pub rows_none : None ≡ reached_roles p session → AreRowsOf p session None
  unfolding has_access
  rows_none reached = at_session (lookup (nat_eq session) p.sessions) refl reached
    where
      at_session : (found : Option Session) → lookup (nat_eq session) p.sessions ≡ found → None ≡ option_map (λ s. closed p.order s.active) found → AreRowsOf p session None
      at_session None at reach = record {
        there = ap is_some (sym at);
        reached = reached;
        whole = tt;
        bits = λ operation object.
            and_false (is_object p.customers p.vehicles object)
            ∙ ap (λ (o : Option Session). is_some o && (is_here p object && reaches p (unwrap_or o (record { user = []; active = 0 })).active operation (number_of object))) (sym at);
      }
      at_session (Some s) at reach = absurd (false≢true (ap is_some reach))

-- one more session and its rows
pub changes-push : (p : PolicyState) (changes : List (ℕ × Option SessionAccess)) (session : ℕ) (rows : Option SessionAccess) →
    AreChangesOf p changes → AreRowsOf p session rows → AreChangesOf p (changes ++ (session, rows) ∷ [])
changes-push p changes session rows each one q found at = by_lookup (lookup (nat_eq q) changes) refl (sym (lookup-push changes session rows q) ∙ at)
  where
    by_test : (t : Bool) → nat_eq q session ≡ t → cond t (Some rows) None ≡ Some found → AreRowsOf p q found
    by_test true e h = subst (λ k. AreRowsOf p k found) (sym (eqb-true q session e)) (subst (AreRowsOf p session) (ap (λ o. unwrap_or o rows) h) one)
    by_test false e h = absurd (false≢true (ap is_some h))

    by_lookup : (o : Option (Option SessionAccess)) → lookup (nat_eq q) changes ≡ o → option_or o (cond (nat_eq q session) (Some rows) None) ≡ Some found → AreRowsOf p q found
    by_lookup None e h = by_test (nat_eq q session) refl h
    by_lookup (Some old) e h = each q found (e ∙ h)

is_some-option_or : {V : Type 0} (o : Option V) (t : Bool) (v : V) → is_some (option_or o (cond t (Some v) None)) ≡ (is_some o || t)
is_some-option_or None true v = refl
is_some-option_or None false v = refl
is_some-option_or (Some x) t v = refl

pub among-push : (changes : List (ℕ × Option SessionAccess)) (sessions : List ℕ) (i : ℕ) (rows : Option SessionAccess) → i < length sessions →
    (q : ℕ) → is_some (lookup (nat_eq q) changes) ≡ is_among (take i sessions) q →
    is_some (lookup (nat_eq q) (changes ++ (get_or sessions i 0, rows) ∷ [])) ≡ is_among (take (i + 1) sessions) q
among-push changes sessions i rows within q so_far =
    ap is_some (lookup-push changes (get_or sessions i 0) rows q)
    ∙ is_some-option_or (lookup (nat_eq q) changes) (nat_eq q (get_or sessions i 0)) rows
    ∙ ap (λ t. t || nat_eq q (get_or sessions i 0)) so_far
    ∙ sym (list_any_more (nat_eq q) sessions i 0 within)

-- tables with some sessions' rows made again
module _ (p : PolicyState) (t : TablesState) (changes : List (ℕ × Option SessionAccess)) (sessions : List ℕ)
    (each : AreChangesOf p changes) (among : (q : ℕ) → is_some (lookup (nat_eq q) changes) ≡ is_among sessions q) where
  abbrev after : ℕ → Option SessionAccess
  after q = rows_after (record { of = t; changes = changes }) q

  pub rebuilt : (q : ℕ) → is_among sessions q ≡ true → AreRowsOf p q (after q)
  rebuilt q h = by_lookup (lookup (nat_eq q) changes) refl (among q ∙ h)
    where
      by_lookup : (o : Option (Option SessionAccess)) → lookup (nat_eq q) changes ≡ o → is_some o ≡ true → AreRowsOf p q (unwrap_or o (rows_of t q))
      by_lookup None e there = absurd (false≢true there)
      by_lookup (Some found) e there = each q found e

  pub others : (q : ℕ) → is_among sessions q ≡ false → after q ≡ rows_of t q
  others q h = by_lookup (lookup (nat_eq q) changes) (among q ∙ h)
    where
      by_lookup : (o : Option (Option SessionAccess)) → is_some o ≡ false → unwrap_or o (rows_of t q) ≡ rows_of t q
      by_lookup None gone = refl
      by_lookup (Some found) gone = absurd (true≢false gone)

  pub compiled : HasSizes p t → (before : PolicyState) → AreCompiled t before → SameAccessBut sessions before p → WillBeCompiled (record { of = t; changes = changes }) p
  compiled sizes before were same = (
    (λ session operation object. bits_by session operation object (is_among sessions session) refl),
    (λ session. reached_by session (is_among sessions session) refl),
    (λ session. whole_by session (is_among sessions session) refl),
  )
    where
      bits_by : (session : ℕ) (operation : Operation) (object : Object) (b : Bool) → is_among sessions session ≡ b → allowed_by t.customers t.vehicles (after session) operation object ≡ has_access p session operation object
      bits_by session operation object true h =
          ap (λ k. allowed_by k t.vehicles (after session) operation object) (sym sizes.customers)
          ∙ ap (λ k. allowed_by p.customers k (after session) operation object) (sym sizes.vehicles)
          ∙ (rebuilt session h).bits operation object
      bits_by session operation object false h =
          ap (λ found. allowed_by t.customers t.vehicles found operation object) (others session h)
          ∙ were.0 session operation object ∙ sym (same.access session h operation object)

      reached_by : (session : ℕ) (b : Bool) → is_among sessions session ≡ b → reach_in (after session) ≡ reached_roles p session
      reached_by session true h = (rebuilt session h).reached
      reached_by session false h = ap reach_in (others session h) ∙ were.1 session ∙ sym (same.reach session h)

      whole_by : (session : ℕ) (b : Bool) → is_among sessions session ≡ b → HasAllRows (after session)
      whole_by session true h = (rebuilt session h).whole
      whole_by session false h = subst HasAllRows (sym (others session h)) (were.2 session)

-- rows that are put in place say what they were made for
pub put_compiled : (rows : RowsState) (t : TablesState) → rows.of.customers ≡ t.customers → rows.of.vehicles ≡ t.vehicles → ((q : ℕ) → rows_of t q ≡ rows_after rows q) →
    (p : PolicyState) → WillBeCompiled rows p → AreCompiled t p
put_compiled rows t customers vehicles put p will = (
  (λ session operation object.
      ap (λ found. allowed_by t.customers t.vehicles found operation object) (put session)
      ∙ ap (λ k. allowed_by t.customers k (rows_after rows session) operation object) (sym vehicles)
      ∙ ap (λ k. allowed_by k rows.of.vehicles (rows_after rows session) operation object) (sym customers)
      ∙ will.0 session operation object),
  (λ session. ap reach_in (put session) ∙ will.1 session),
  (λ session. subst HasAllRows (sym (put session)) (will.2 session)),
)

-- where there are no rows, they say CheckAccess of a policy without sessions
pub none_compiled : (t : TablesState) → t.rows ≡ [] → (p : PolicyState) → p.sessions ≡ [] → AreCompiled t p
unfolding has_access
none_compiled t empty p none = (
  (λ session operation object.
      ap (λ (es : List (ℕ × SessionAccess)). allowed_by t.customers t.vehicles (lookup (nat_eq session) es) operation object) empty
      ∙ and_false (is_object t.customers t.vehicles object)
      ∙ ap (λ (es : List (ℕ × Session)). is_some (lookup (nat_eq session) es) && (is_here p object && reaches p (unwrap_or (lookup (nat_eq session) es) (record { user = []; active = 0 })).active operation (number_of object))) (sym none)),
  (λ session.
      ap (λ (es : List (ℕ × SessionAccess)). reach_in (lookup (nat_eq session) es)) empty
      ∙ ap (λ (es : List (ℕ × Session)). option_map (λ s. closed p.order s.active) (lookup (nat_eq session) es)) (sym none)),
  (λ session. subst (λ (es : List (ℕ × SessionAccess)). HasAllRows (lookup (nat_eq session) es)) (sym empty) tt),
)

-- what tables say, session by session
pub each_rows : (t : TablesState) (p : PolicyState) → HasSizes p t → AreCompiled t p → (session : ℕ) → AreRowsOf p session (rows_of t session)
each_rows t p sizes are session = record {
  there = sym (is_some-map (λ (access : SessionAccess). access.reach) (rows_of t session)) ∙ ap is_some (are.1 session) ∙ is_some-map (λ (s : Session). closed p.order s.active) (lookup (nat_eq session) p.sessions);
  reached = are.1 session;
  whole = are.2 session;
  bits = λ operation object.
      ap (λ k. allowed_by k p.vehicles (rows_of t session) operation object) sizes.customers
      ∙ ap (λ k. allowed_by t.customers k (rows_of t session) operation object) sizes.vehicles
      ∙ are.0 session operation object;
}

-- and back, where each session's is changed
pub all_rows : (t : TablesState) (q : PolicyState) → HasSizes q t → (f : ℕ → SessionAccess → SessionAccess) → ((session : ℕ) → AreRowsOf q session (option_map (f session) (rows_of t session)))
    → AreCompiled (record t { rows = all_changed f t.rows }) q
all_rows t q sizes f each =
    let found : (session : ℕ) → lookup (nat_eq session) (all_changed f t.rows) ≡ option_map (f session) (rows_of t session) = λ session. lookup-changed f session t.rows in (
      (λ session operation object.
          ap (λ o. allowed_by t.customers t.vehicles o operation object) (found session)
          ∙ ap (λ k. allowed_by k t.vehicles (option_map (f session) (rows_of t session)) operation object) (sym sizes.customers)
          ∙ ap (λ k. allowed_by q.customers k (option_map (f session) (rows_of t session)) operation object) (sym sizes.vehicles)
          ∙ (each session).bits operation object),
      (λ session. ap reach_in (found session) ∙ (each session).reached),
      (λ session. subst HasAllRows (sym (found session)) (each session).whole),
    )
