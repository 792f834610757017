-- Which sessions keep their access over a command.
use Rattle.std.proofs.Common.{◌≡◌, ℕ, ◌+◌, Bool, true, false, cond, not, ◌&&◌, ◌||◌, List, [], ◌∷◌, ◌++◌, take, map, filter, Option, Some, None, sym, refl, ap, ◌∙◌}
use Rattle.std.specs.Prelude.{nat_eq, bytes_eq, is_some, unwrap_or, bit_and, slice_get, ◌==◌}
use Rattle.std.specs.List.{list_any}
use Rattle.std.specs.Map.{lookup, remove_entry}
use Rattle.std.specs.Option.{option_map}
use Rattle.indexmap.specs.IndexMap.{insert_entry}
use Rattle.std.proofs.lemmas.Bool.{false≢true, eqb-true, or_parts}
use Rattle.role_hierarchy.specs.Roles.{has}
use Rattle.role_hierarchy.specs.Order.{with_slot}
use Rattle.role_hierarchy.specs.BelowLaws.{closed-with_slot}
use Rattle.separation_core.specs.GroupLaws.{take_at}
use Rattle.permission_core.specs.declared.objects.Operation.{Operation}
use Rattle.permission_core.specs.declared.objects.Object.{Object}
use Rattle.permission_core.specs.Objects.{number_of}
use Rattle.permission_core.specs.Permissions.{row_at}
use Rattle.policy_core.specs.declared.session.Session.{Session}
use Rattle.policy_core.specs.State.{PolicyState, session_of, numbers_of}
use Rattle.policy_core.specs.Access.{has_access, is_here, reaches, some_below}
use Rattle.policy_core.specs.Commands.{kept_session}
use Rattle.rbac_core.specs.Affected.{has_lost}

-- access by the session that is found, and by what is below its active roles
abbrev pub access_by : PolicyState → Operation → Object → Option Session → Bool
access_by p operation object found =
    is_some found && (is_here p object && reaches p (unwrap_or found (record { user = []; active = 0 })).active operation (number_of object))

pub access_is : (p : PolicyState) (session : ℕ) (operation : Operation) (object : Object) → has_access p session operation object ≡ access_by p operation object (lookup (nat_eq session) p.sessions)
unfolding has_access
access_is p session operation object = refl

-- a session that is not there has no access
pub no_access : (p : PolicyState) (session : ℕ) (operation : Operation) (object : Object) → lookup (nat_eq session) p.sessions ≡ None → has_access p session operation object ≡ false
no_access p session operation object none = access_is p session operation object ∙ ap (access_by p operation object) none

-- a session that is found as it was, with the same roles below the active ones, has the same access
pub same_sessions : (p q : PolicyState) (session : ℕ) (operation : Operation) (object : Object) → ((found : Option Session) → access_by q operation object found ≡ access_by p operation object found) →
    lookup (nat_eq session) q.sessions ≡ lookup (nat_eq session) p.sessions → has_access q session operation object ≡ has_access p session operation object
same_sessions p q session operation object same found =
    access_is q session operation object ∙ ap (access_by q operation object) found ∙ same (lookup (nat_eq session) p.sessions) ∙ sym (access_is p session operation object)

-- the order with a role that is in no pair
pub with_slot_access : (p : PolicyState) (roles : List (List ℕ × ℕ)) (slot : ℕ) (operation : Operation) (object : Object) (found : Option Session) →
    access_by (record p { roles = roles; order = with_slot p.order slot }) operation object found ≡ access_by p operation object found
unfolding reaches
with_slot_access p roles slot operation object found =
    ap (λ below. is_some found && (is_here p object && some_below (λ b. has below b && has (row_at p.grants b operation) (number_of object)) 256))
    (closed-with_slot p.order slot (unwrap_or found (record { user = []; active = 0 })).active)

-- numbers that are not among those of the sessions
pub absent : (session : ℕ) (es : List (ℕ × Session)) → list_any (nat_eq session) (numbers_of es) ≡ false → lookup (nat_eq session) es ≡ None
absent session [] none = refl
absent session (e ∷ es) none =
    let parts = or_parts _ _ none in
    ap (λ t. cond t (Some e.1) (lookup (nat_eq session) es)) parts.0 ∙ absent session es parts.1

pub lookup-mapped : (k : Session → Session) (session : ℕ) (es : List (ℕ × Session)) → lookup (nat_eq session) (map (λ e. (e.0, k e.1)) es) ≡ option_map k (lookup (nat_eq session) es)
lookup-mapped k session [] = refl
lookup-mapped k session (e ∷ es) =
    elim (nat_eq session e.0) as (λ t. cond t (Some (k e.1)) (lookup (nat_eq session) (map (λ x. (x.0, k x.1)) es)) ≡ option_map k (cond t (Some e.1) (lookup (nat_eq session) es))) [
      | true ↦ refl
      | false ↦ lookup-mapped k session es
    ]

-- the numbers stay where each session is mapped
pub numbers-mapped : (k : Session → Session) (es : List (ℕ × Session)) → numbers_of (map (λ e. (e.0, k e.1)) es) ≡ numbers_of es
numbers-mapped k [] = refl
numbers-mapped k (e ∷ es) = ap (λ ns. e.0 ∷ ns) (numbers-mapped k es)

-- the test fails for a session that is not among those that pass it
pub fails : (test : Session → Bool) (session : ℕ) (es : List (ℕ × Session)) (s : Session) → list_any (nat_eq session) (numbers_of (filter (λ e. test e.1) es)) ≡ false → lookup (nat_eq session) es ≡ Some s → test s ≡ false
fails test session [] s none there = absurd (cc)
fails test session (e ∷ es) s none there = by (nat_eq session e.0) refl there (λ found. fails test session es s (skipped (test e.1) none) found)
  where
    passing : List (ℕ × Session)
    passing = filter (λ x. test x.1) es

    skipped : (t : Bool) → list_any (nat_eq session) (numbers_of (cond t (e ∷ passing) passing)) ≡ false → list_any (nat_eq session) (numbers_of passing) ≡ false
    skipped true h = (or_parts _ _ h).1
    skipped false h = h

    failed : (t : Bool) → test e.1 ≡ t → nat_eq session e.0 ≡ true → list_any (nat_eq session) (numbers_of (cond t (e ∷ passing) passing)) ≡ false → test e.1 ≡ false
    failed true k is h = absurd (false≢true (sym (or_parts _ _ h).0 ∙ is))
    failed false k is h = k

    by : (b : Bool) → nat_eq session e.0 ≡ b → cond b (Some e.1) (lookup (nat_eq session) es) ≡ Some s → (lookup (nat_eq session) es ≡ Some s → test s ≡ false) → test s ≡ false
    by true is found rest = (let same : e.1 ≡ s = cc in ap test (sym same) ∙ failed (test e.1) refl is none)
    by false is found rest = rest found

-- a session that the filter keeps is found as before
pub lookup-filter : (test : Session → Bool) (session : ℕ) (es : List (ℕ × Session)) → ((s : Session) → lookup (nat_eq session) es ≡ Some s → test s ≡ true) → lookup (nat_eq session) (filter (λ e. test e.1) es) ≡ lookup (nat_eq session) es
lookup-filter test session [] kept = refl
lookup-filter test session (e ∷ es) kept = by (nat_eq session e.0) refl (λ other. lookup-filter test session es (λ s found. kept s (ap (λ b. cond b (Some e.1) (lookup (nat_eq session) es)) other ∙ found)))
  where
    passing : List (ℕ × Session)
    passing = filter (λ x. test x.1) es

    by : (b : Bool) → nat_eq session e.0 ≡ b → (b ≡ false → lookup (nat_eq session) passing ≡ lookup (nat_eq session) es) → lookup (nat_eq session) (cond (test e.1) (e ∷ passing) passing) ≡ cond b (Some e.1) (lookup (nat_eq session) es)
    by true is rest =
        let passes : test e.1 ≡ true = kept e.1 (ap (λ b. cond b (Some e.1) (lookup (nat_eq session) es)) is) in
        ap (λ t. lookup (nat_eq session) (cond t (e ∷ passing) passing)) passes ∙ ap (λ b. cond b (Some e.1) (lookup (nat_eq session) passing)) is
    by false is rest = either (test e.1) ∙ rest refl
      where
        either : (t : Bool) → lookup (nat_eq session) (cond t (e ∷ passing) passing) ≡ lookup (nat_eq session) passing
        either true = ap (λ b. cond b (Some e.1) (lookup (nat_eq session) passing)) is
        either false = refl

pub lookup-other : (session number : ℕ) (s : Session) (es : List (ℕ × Session)) → nat_eq session number ≡ false → lookup (nat_eq session) (insert_entry nat_eq es number s) ≡ lookup (nat_eq session) es
lookup-other session number s [] other = ap (λ t. cond t (Some s) None) other
lookup-other session number s (e ∷ es) other = by (nat_eq number e.0) refl (lookup-other session number s es other)
  where
    by : (t : Bool) → nat_eq number e.0 ≡ t → lookup (nat_eq session) (insert_entry nat_eq es number s) ≡ lookup (nat_eq session) es →
        lookup (nat_eq session) (cond t ((e.0, s) ∷ es) (e ∷ insert_entry nat_eq es number s)) ≡ lookup (nat_eq session) (e ∷ es)
    by true is rest =
        let same : number ≡ e.0 = eqb-true number e.0 is in
        let apart : nat_eq session e.0 ≡ false = ap (nat_eq session) (sym same) ∙ other in
        ap (λ t. cond t (Some s) (lookup (nat_eq session) es)) apart ∙ sym (ap (λ t. cond t (Some e.1) (lookup (nat_eq session) es)) apart)
    by false is rest = ap (cond (nat_eq session e.0) (Some e.1)) rest

pub lookup-removed : (session number : ℕ) (es : List (ℕ × Session)) → nat_eq session number ≡ false → lookup (nat_eq session) (remove_entry (nat_eq number) es) ≡ lookup (nat_eq session) es
lookup-removed session number [] other = refl
lookup-removed session number (e ∷ es) other = by (nat_eq number e.0) refl (lookup-removed session number es other)
  where
    by : (t : Bool) → nat_eq number e.0 ≡ t → lookup (nat_eq session) (remove_entry (nat_eq number) es) ≡ lookup (nat_eq session) es →
        lookup (nat_eq session) (cond t es (e ∷ remove_entry (nat_eq number) es)) ≡ lookup (nat_eq session) (e ∷ es)
    by true is rest =
        let same : number ≡ e.0 = eqb-true number e.0 is in
        let apart : nat_eq session e.0 ≡ false = ap (nat_eq session) (sym same) ∙ other in
        sym (ap (λ t. cond t (Some e.1) (lookup (nat_eq session) es)) apart)
    by false is rest = ap (cond (nat_eq session e.0) (Some e.1)) rest

-- a session that is found has one of the numbers
present : (session : ℕ) (es : List (ℕ × Session)) (s : Session) → lookup (nat_eq session) es ≡ Some s → list_any (nat_eq session) (numbers_of es) ≡ true
present session es s there = by (list_any (nat_eq session) (numbers_of es)) refl
  where
    by : (t : Bool) → list_any (nat_eq session) (numbers_of es) ≡ t → list_any (nat_eq session) (numbers_of es) ≡ true
    by true e = e
    by false e = (let none : None ≡ Some s = sym (absent session es e) ∙ there in cc)

-- the test fails for a number that is not among those that pass it
number_fails : (test : ℕ → Bool) (n : ℕ) (ns : List ℕ) → list_any (nat_eq n) (filter test ns) ≡ false → list_any (nat_eq n) ns ≡ true → test n ≡ false
number_fails test n [] none some = absurd (false≢true some)
number_fails test n (x ∷ xs) none some = by (nat_eq n x) refl some (number_fails test n xs (skipped (test x) none))
  where
    skipped : (t : Bool) → list_any (nat_eq n) (cond t (x ∷ filter test xs) (filter test xs)) ≡ false → list_any (nat_eq n) (filter test xs) ≡ false
    skipped true h = (or_parts _ _ h).1
    skipped false h = h

    failed : (t : Bool) → test x ≡ t → nat_eq n x ≡ true → list_any (nat_eq n) (cond t (x ∷ filter test xs) (filter test xs)) ≡ false → test x ≡ false
    failed true k is h = absurd (false≢true (sym (or_parts _ _ h).0 ∙ is))
    failed false k is h = k

    by : (b : Bool) → nat_eq n x ≡ b → (b || list_any (nat_eq n) xs) ≡ true → (list_any (nat_eq n) xs ≡ true → test n ≡ false) → test n ≡ false
    by true is some rest = ap test (eqb-true n x is) ∙ failed (test x) refl is none
    by false is some rest = rest some

module _ (p : PolicyState) (session : ℕ) (operation : Operation) (object : Object) where
  -- a session that is in neither policy
  pub nowhere : (q : PolicyState) → numbers_of q.sessions ≡ numbers_of p.sessions → list_any (nat_eq session) (numbers_of q.sessions) ≡ false → has_access q session operation object ≡ has_access p session operation object
  nowhere q same none =
      no_access q session operation object (absent session q.sessions none)
      ∙ sym (no_access p session operation object (absent session p.sessions (ap (list_any (nat_eq session)) (sym same) ∙ none)))

  -- the sessions of another user stay
  pub kept_found : (user : List ℕ) (allowed : ℕ) → list_any (nat_eq session) (numbers_of (filter (λ e. bytes_eq e.1.user user) p.sessions)) ≡ false →
      lookup (nat_eq session) (map (λ e. (e.0, kept_session user allowed e.1)) p.sessions) ≡ lookup (nat_eq session) p.sessions
  kept_found user allowed none = lookup-mapped (kept_session user allowed) session p.sessions ∙ by (lookup (nat_eq session) p.sessions) refl
    where
      by : (found : Option Session) → lookup (nat_eq session) p.sessions ≡ found → option_map (kept_session user allowed) found ≡ found
      by None h = refl
      by (Some s) h = ap (λ t. Some (cond t (record s { active = bit_and s.active allowed }) s)) (fails (λ x. bytes_eq x.user user) session p.sessions s none h)

  pub left_found : (user : List ℕ) → list_any (nat_eq session) (numbers_of (filter (λ e. bytes_eq e.1.user user) p.sessions)) ≡ false →
      lookup (nat_eq session) (filter (λ e. not (bytes_eq e.1.user user)) p.sessions) ≡ lookup (nat_eq session) p.sessions
  left_found user none = lookup-filter (λ s. not (bytes_eq s.user user)) session p.sessions (λ s there. ap not (fails (λ x. bytes_eq x.user user) session p.sessions s none there))

  -- a session that keeps its active roles keeps its access
  pub same_active : (k : Session → Session) → ((s : Session) → lookup (nat_eq session) p.sessions ≡ Some s → s.active ≡ (k s).active) →
      access_by p operation object (lookup (nat_eq session) (map (λ e. (e.0, k e.1)) p.sessions)) ≡ access_by p operation object (lookup (nat_eq session) p.sessions)
  same_active k same = ap (access_by p operation object) (lookup-mapped k session p.sessions) ∙ by (lookup (nat_eq session) p.sessions) refl
    where
      by : (found : Option Session) → lookup (nat_eq session) p.sessions ≡ found → access_by p operation object (option_map k found) ≡ access_by p operation object found
      by None h = refl
      by (Some s) h = ap (λ active. is_here p object && reaches p active operation (number_of object)) (sym (same s h))

  -- the sessions that lost no role
  pub migrated_active : (q : PolicyState) (k : Session → Session) → q.sessions ≡ map (λ e. (e.0, k e.1)) p.sessions → list_any (nat_eq session) (filter (has_lost p q) (numbers_of p.sessions)) ≡ false →
      (s : Session) → lookup (nat_eq session) p.sessions ≡ Some s → s.active ≡ (k s).active
  migrated_active q k mapped none s there =
      let default : Session = record { user = []; active = 0 } in
      let kept : not (has_lost p q session) ≡ true = ap not (number_fails (has_lost p q) session (numbers_of p.sessions) none (present session p.sessions s there)) in
      let same : ((session_of p session).active == (session_of q session).active) ≡ true = not_not _ ∙ kept in
      let found : lookup (nat_eq session) q.sessions ≡ Some (k s) = ap (lookup (nat_eq session)) mapped ∙ lookup-mapped k session p.sessions ∙ ap (option_map k) there in
      ap (λ o. (unwrap_or o default).active) (sym there) ∙ eqb-true _ _ same ∙ ap (λ o. (unwrap_or o default).active) found
    where
      not_not : (t : Bool) → t ≡ not (not t)
      not_not true = refl
      not_not false = refl

filter-append : (keep : ℕ → Bool) (xs ys : List ℕ) → filter keep (xs ++ ys) ≡ filter keep xs ++ filter keep ys
filter-append keep [] ys = refl
filter-append keep (x ∷ xs) ys = elim (keep x) as (λ t. cond t (x ∷ filter keep (xs ++ ys)) (filter keep (xs ++ ys)) ≡ cond t (x ∷ filter keep xs) (filter keep xs) ++ filter keep ys) [
  | true ↦ ap (λ zs. x ∷ zs) (filter-append keep xs ys)
  | false ↦ filter-append keep xs ys
]

-- the numbers that pass, with one more
pub filter_next : (keep : ℕ → Bool) (ns : List ℕ) (i n : ℕ) (t : Bool) → slice_get ns i ≡ Some n → keep n ≡ t → filter keep (take i ns) ++ cond t (n ∷ []) [] ≡ filter keep (take (i + 1) ns)
filter_next keep ns i n t here h =
    ap (λ b. filter keep (take i ns) ++ cond b (n ∷ []) []) (sym h)
    ∙ sym (ap (filter keep) (take_at ns i n here) ∙ filter-append keep (take i ns) (n ∷ []))
