-- What the changes of the sets leave of each set, and the search for the first broken one.
use Rattle.std.proofs.Common.{◌≡◌, ℕ, zero, suc, ◌+◌, ◌<◌, ◌≤◌, Bool, true, false, cond, ◌||◌, List, [], ◌∷◌, ◌++◌, take, drop, rules, length, get_or, sym, refl, ap, ap₂, subst, ◌∙◌, arith, Option, Some, None, leb}
use Rattle.std.specs.Prelude.{is_some, slice_get, bytes_eq, bit_and, count_ones, Contains, IfSome}
use Rattle.std.specs.List.{list_any, list_all}
use Rattle.std.specs.Map.{lookup}
use Rattle.indexmap.specs.IndexMap.{insert_entry}
use Rattle.std.proofs.lemmas.Bool.{cond-true, cond-false, false≢true, leb-false, lt-leb, le-leb, leb-true, and_parts, and_from, or_left, or_parts}
use Rattle.std.proofs.lemmas.List.{take-append-drop}
use Rattle.std.proofs.lemmas.List.{length-append}
use Rattle.std.proofs.lemmas.Slice.Eq.{bytes_eq-Decides}
use Rattle.std.specs.Option.{option_or}
use Rattle.separation_core.specs.declared.sets.SetFault.{SetFault}
use Rattle.separation_core.specs.declared.sets.SetFault.TheVariants as fault
use Rattle.role_hierarchy.specs.Roles.{has, with_role, without}
use Rattle.role_hierarchy.specs.RoleLaws.{has-bit_and, has-with_role, has-without, count_fewer, below_power}
use Rattle.separation_core.specs.Groups.{Groups, Says, AreSets, HoldsFor, new_refusal, create_refusal, limit_with, is_broken, is_sound, first_broken, first_breaking, is_named, limit_of, limits_of, changed, limit_without, with_set, without_set, without_member}
use Rattle.separation_core.specs.declared.sets.Limit.{Limit}

pub lookup_is_some : {K X : Type 0} (test : K → Bool) (es : List (K × X)) → is_some (lookup test es) ≡ list_any (λ e. test e.0) es
lookup_is_some test [] = refl
lookup_is_some test (e ∷ es) = elim (test e.0) as (λ b. is_some (cond b (Some e.1) (lookup test es)) ≡ (b || list_any (λ e. test e.0) es)) [
  | true ↦ refl
  | false ↦ lookup_is_some test es
]

next : (i : ℕ) → suc (i + 1) ≡ suc i + 1
next i = omega arith

pub drop_at : {X : Type 0} (xs : List X) (i : ℕ) (x : X) → slice_get xs i ≡ Some x → drop i xs ≡ x ∷ drop (i + 1) xs
drop_at [] i x h = absurd (search (rules, h))
drop_at (y ∷ xs) zero x h = let same : Some y ≡ Some x = h in cc
drop_at (y ∷ xs) (suc i) x h = drop_at xs i x h ∙ ap (λ n. x ∷ drop n (y ∷ xs)) (next i)

pub take_at : {X : Type 0} (xs : List X) (i : ℕ) (x : X) → slice_get xs i ≡ Some x → take (i + 1) xs ≡ take i xs ++ x ∷ []
take_at [] i x h = absurd (search (rules, h))
take_at (y ∷ xs) zero x h = let same : Some y ≡ Some x = h in cc
take_at (y ∷ xs) (suc i) x h = ap (λ n. take n (y ∷ xs)) (sym (next i)) ∙ ap (λ r. y ∷ r) (take_at xs i x h)

-- the sets before the first broken one do not count
pub first_broken-past : (given : ℕ) (xs ys : Groups) → first_broken given xs ≡ None → first_broken given (xs ++ ys) ≡ first_broken given ys
unfolding first_broken
first_broken-past given [] ys none = refl
first_broken-past given (e ∷ xs) ys none =
    elim (is_broken given e.1) as (λ b. cond b (Some e.0) (first_broken given xs) ≡ None → cond b (Some e.0) (first_broken given (xs ++ ys)) ≡ first_broken given ys) [
      | true ↦ λ h. cc
      | false ↦ λ h. first_broken-past given xs ys h
    ] none

pub first_broken-here : (given : ℕ) (es : Groups) (i : ℕ) (g : List ℕ × Limit) → first_broken given (take i es) ≡ None → slice_get es i ≡ Some g → is_broken given g.1 ≡ true → first_broken given es ≡ Some g.0
unfolding first_broken
first_broken-here given es i g none here broken =
    ap (first_broken given) (sym (take-append-drop i es) ∙ ap (λ r. take i es ++ r) (drop_at es i g here))
    ∙ first_broken-past given (take i es) (g ∷ drop (i + 1) es) none
    ∙ cond-true (is_broken given g.1) (Some g.0) (first_broken given (drop (i + 1) es)) broken

pub first_broken-more : (given : ℕ) (es : Groups) (i : ℕ) (g : List ℕ × Limit) → first_broken given (take i es) ≡ None → slice_get es i ≡ Some g → is_broken given g.1 ≡ false → first_broken given (take (i + 1) es) ≡ None
unfolding first_broken
first_broken-more given es i g none here broken =
    ap (first_broken given) (take_at es i g here)
    ∙ first_broken-past given (take i es) (g ∷ []) none
    ∙ cond-false (is_broken given g.1) (Some g.0) None broken

pub first_broken-none : (given : ℕ) → first_broken given [] ≡ None
unfolding first_broken
first_broken-none given = refl

pub lookup_none : (name : List ℕ) (es : Groups) → is_named es name ≡ false → lookup (bytes_eq name) es ≡ None
lookup_none name es h = none_from (lookup (bytes_eq name) es) (lookup_is_some (bytes_eq name) es ∙ h)
  where
    none_from : (o : Option Limit) → is_some o ≡ false → o ≡ None
    none_from None e = refl
    none_from (Some x) e = absurd (false≢true (sym e))

pub named_none : (name : List ℕ) (es : Groups) → None ≡ lookup (bytes_eq name) es → is_named es name ≡ false
named_none name es h = sym (lookup_is_some (bytes_eq name) es) ∙ sym (ap is_some h)

pub named_some : (name : List ℕ) (es : Groups) (x : Limit) → Some x ≡ lookup (bytes_eq name) es → is_named es name ≡ true
named_some name es x h = sym (lookup_is_some (bytes_eq name) es) ∙ sym (ap is_some h)

-- the first set is not broken, nor any after it
first_broken-front : (given : ℕ) (g : List ℕ × Limit) (groups : Groups) → first_broken given (g ∷ groups) ≡ None → (is_broken given g.1 ≡ false) × (first_broken given groups ≡ None)
unfolding first_broken
first_broken-front given g groups none =
    elim (is_broken given g.1) as (λ b. cond b (Some g.0) (first_broken given groups) ≡ None → (b ≡ false) × (first_broken given groups ≡ None)) [
      | true ↦ λ h. absurd (cc)
      | false ↦ λ h. (refl, h)
    ] none

first_broken-skip : (given : ℕ) (g : List ℕ × Limit) (groups : Groups) → is_broken given g.1 ≡ false → first_broken given (g ∷ groups) ≡ first_broken given groups
unfolding first_broken
first_broken-skip given g groups whole = cond-false (is_broken given g.1) (Some g.0) (first_broken given groups) whole

first_broken-at : (given : ℕ) (name : List ℕ) (limit : Limit) (groups : Groups) → first_broken given groups ≡ None → first_broken given ((name, limit) ∷ groups) ≡ cond (is_broken given limit) (Some name) None
unfolding first_broken
first_broken-at given name limit groups none = ap (cond (is_broken given limit) (Some name)) none

-- one more set
pub first_broken-with_set : (given : ℕ) (groups : Groups) (name : List ℕ) (limit : Limit) → first_broken given groups ≡ None → first_broken given (with_set groups name limit) ≡ cond (is_broken given limit) (Some name) None
first_broken-with_set given groups name limit none = first_broken-past given groups ((name, limit) ∷ []) none ∙ first_broken-at given name limit [] (first_broken-none given)

-- one set with other roles or another number
pub first_broken-changed : (given : ℕ) (groups : Groups) (name : List ℕ) (f : Limit → Limit) (limit : Limit) → limit_of groups name ≡ Some limit → first_broken given groups ≡ None →
    first_broken given (changed groups name f) ≡ cond (is_broken given (f limit)) (Some name) None
first_broken-changed given [] name f limit there none = absurd (cc)
first_broken-changed given (g ∷ groups) name f limit there none = by (bytes_eq name g.0) refl there (λ found. first_broken-changed given groups name f limit found (first_broken-front given g groups none).1)
  where
    front : (is_broken given g.1 ≡ false) × (first_broken given groups ≡ None)
    front = first_broken-front given g groups none

    by : (b : Bool) → bytes_eq name g.0 ≡ b → cond b (Some g.1) (limit_of groups name) ≡ Some limit →
        (limit_of groups name ≡ Some limit → first_broken given (changed groups name f) ≡ cond (is_broken given (f limit)) (Some name) None) →
        first_broken given (cond b ((g.0, f g.1) ∷ groups) (g ∷ changed groups name f)) ≡ cond (is_broken given (f limit)) (Some name) None
    by true e found rest =
        let same : g.1 ≡ limit = cc in
        let own : name ≡ g.0 = (bytes_eq-Decides name g.0).0 e in
        first_broken-at given g.0 (f g.1) groups front.1 ∙ ap (λ l. cond (is_broken given (f l)) (Some g.0) None) same ∙ ap (λ n. cond (is_broken given (f limit)) (Some n) None) (sym own)
    by false e found rest = first_broken-skip given g (changed groups name f) front.0 ∙ rest found

-- a change that breaks no set
pub first_broken-changed_fewer : (given : ℕ) (groups : Groups) (name : List ℕ) (f : Limit → Limit) → ((limit : Limit) → is_broken given limit ≡ false → is_broken given (f limit) ≡ false) →
    first_broken given groups ≡ None → first_broken given (changed groups name f) ≡ None
first_broken-changed_fewer given [] name f fewer none = none
first_broken-changed_fewer given (g ∷ groups) name f fewer none = elim (bytes_eq name g.0) as (λ b. first_broken given (cond b ((g.0, f g.1) ∷ groups) (g ∷ changed groups name f)) ≡ None) [
  | true ↦ first_broken-skip given (g.0, f g.1) groups (fewer g.1 front.0) ∙ front.1
  | false ↦ first_broken-skip given g (changed groups name f) front.0 ∙ first_broken-changed_fewer given groups name f fewer front.1
]
  where
    front : (is_broken given g.1 ≡ false) × (first_broken given groups ≡ None)
    front = first_broken-front given g groups none

-- one set fewer
pub first_broken-without_set : (given : ℕ) (groups : Groups) (name : List ℕ) → first_broken given groups ≡ None → first_broken given (without_set groups name) ≡ None
first_broken-without_set given [] name none = none
first_broken-without_set given (g ∷ groups) name none = elim (bytes_eq name g.0) as (λ b. first_broken given (cond b groups (g ∷ without_set groups name)) ≡ None) [
  | true ↦ front.1
  | false ↦ first_broken-skip given g (without_set groups name) front.0 ∙ first_broken-without_set given groups name front.1
]
  where
    front : (is_broken given g.1 ≡ false) × (first_broken given groups ≡ None)
    front = first_broken-front given g groups none

-- a set without one of its roles is not broken where it was not
pub is_broken-limit_without : (given role : ℕ) (limit : Limit) → is_broken given limit ≡ false → is_broken given (limit_without role limit) ≡ false
is_broken-limit_without given role limit whole =
    let few : count_ones (bit_and (without limit.roles role) given) ≤ count_ones (bit_and limit.roles given) =
    count_fewer _ _ (bit_and (without limit.roles role) given) (below_power _)
    (λ q h. let parts = and_parts _ _ (sym (has-bit_and (without limit.roles role) given q) ∙ h) in
    has-bit_and limit.roles given q ∙ and_from _ _ (and_parts _ _ (sym (has-without limit.roles role q) ∙ parts.0)).1 parts.1) in
    let below : count_ones (bit_and limit.roles given) < limit.number = leb-false _ _ whole in
    lt-leb _ _ (omega (arith, few, below))

-- no first broken set: of each set fewer roles than its number are given
pub first_broken-holds : (given : ℕ) (groups : Groups) → first_broken given groups ≡ None → HoldsFor given groups
first_broken-holds given [] none name limit there = absurd (omega (arith, there.1))
first_broken-holds given (g ∷ groups) none name limit there = at (first_broken-holds given groups (first_broken-front given g groups none).1 name limit) there.0 there.1 there.2
  where
    front : (is_broken given g.1 ≡ false) × (first_broken given groups ≡ None)
    front = first_broken-front given g groups none

    at : (Contains groups (name, limit) → count_ones (bit_and limit.roles given) < limit.number) → (k : ℕ) → k < length (g ∷ groups) → get_or (g ∷ groups) k (name, limit) ≡ (name, limit) → count_ones (bit_and limit.roles given) < limit.number
    at rest zero h e = subst (λ l. count_ones (bit_and l.roles given) < l.number) (ap (λ x. x.1) e) (leb-false _ _ front.0)
    at rest (suc k) h e = rest (k, omega arith, e)

pub holds-first_broken : (given : ℕ) (groups : Groups) → HoldsFor given groups → first_broken given groups ≡ None
holds-first_broken given [] holds = first_broken-none given
holds-first_broken given (g ∷ groups) holds =
    first_broken-skip given g groups (lt-leb _ _ (holds g.0 g.1 (0, omega arith, refl)))
    ∙ holds-first_broken given groups (λ name limit there. holds name limit (suc there.0, omega (arith, there.1), there.2))

-- the map's own insertion, for a set that is there
pub insert_entry-changed : (groups : Groups) (name : List ℕ) (limit : Limit) → is_some (limit_of groups name) ≡ true → insert_entry bytes_eq groups name limit ≡ changed groups name (λ _. limit)
insert_entry-changed [] name limit there = absurd (false≢true there)
insert_entry-changed (g ∷ groups) name limit there =
    elim (bytes_eq name g.0) as (λ b. is_some (cond b (Some g.1) (limit_of groups name)) ≡ true →
    cond b ((g.0, limit) ∷ groups) (g ∷ insert_entry bytes_eq groups name limit) ≡ cond b ((g.0, limit) ∷ groups) (g ∷ changed groups name (λ _. limit))) [
      | true ↦ λ h. refl
      | false ↦ λ h. ap (λ gs. g ∷ gs) (insert_entry-changed groups name limit h)
    ] there

-- changing a set into what it is to be
pub changed-known : (groups : Groups) (name : List ℕ) (f : Limit → Limit) (limit next : Limit) → limit_of groups name ≡ Some limit → next ≡ f limit → changed groups name (λ _. next) ≡ changed groups name f
changed-known [] name f limit next there e = refl
changed-known (g ∷ groups) name f limit next there e =
    elim (bytes_eq name g.0) as (λ b. cond b (Some g.1) (limit_of groups name) ≡ Some limit →
    cond b ((g.0, next) ∷ groups) (g ∷ changed groups name (λ _. next)) ≡ cond b ((g.0, f g.1) ∷ groups) (g ∷ changed groups name f)) [
      | true ↦ λ h. (let same : g.1 ≡ limit = cc in ap (λ l. (g.0, l) ∷ groups) (e ∙ ap f (sym same)))
      | false ↦ λ h. ap (λ gs. g ∷ gs) (changed-known groups name f limit next h e)
    ] there

-- what all sets keep
pub AreSets-none : AreSets []
AreSets-none = record { few = omega arith; sound = refl }

pub AreSets-with_set : (groups : Groups) (name : List ℕ) (limit : Limit) → length groups < 64 → is_sound limit ≡ true → AreSets groups → AreSets (with_set groups name limit)
AreSets-with_set groups name limit room sound kept = record {
  few = omega (arith, length-append groups ((name, limit) ∷ []));
  sound = sound_more groups kept.sound;
}
  where
    sound_more : (gs : Groups) → list_all is_sound (limits_of gs) ≡ true → list_all is_sound (limits_of (gs ++ (name, limit) ∷ [])) ≡ true
    sound_more [] h = and_from _ _ sound refl
    sound_more (g ∷ gs) h = let parts = and_parts _ _ h in and_from _ _ parts.0 (sound_more gs parts.1)

pub AreSets-changed : (groups : Groups) (name : List ℕ) (limit : Limit) → is_sound limit ≡ true → AreSets groups → AreSets (changed groups name (λ _. limit))
AreSets-changed groups name limit sound kept = record {
  few = omega (arith, same_length groups, kept.few);
  sound = still groups kept.sound;
}
  where
    same_length : (gs : Groups) → length (changed gs name (λ _. limit)) ≡ length gs
    same_length [] = refl
    same_length (g ∷ gs) = elim (bytes_eq name g.0) as (λ b. length (cond b ((g.0, limit) ∷ gs) (g ∷ changed gs name (λ _. limit))) ≡ length (g ∷ gs)) [
      | true ↦ refl
      | false ↦ ap suc (same_length gs)
    ]

    still : (gs : Groups) → list_all is_sound (limits_of gs) ≡ true → list_all is_sound (limits_of (changed gs name (λ _. limit))) ≡ true
    still [] h = h
    still (g ∷ gs) h = let parts = and_parts _ _ h in
        (elim (bytes_eq name g.0) as (λ b. list_all is_sound (limits_of (cond b ((g.0, limit) ∷ gs) (g ∷ changed gs name (λ _. limit)))) ≡ true) [
          | true ↦ and_from _ _ sound parts.1
          | false ↦ and_from _ _ parts.0 (still gs parts.1)
        ])

pub AreSets-without_set : (groups : Groups) (name : List ℕ) → AreSets groups → AreSets (without_set groups name)
AreSets-without_set groups name kept = record {
  few = omega (arith, fewer groups, kept.few);
  sound = still groups kept.sound;
}
  where
    fewer : (gs : Groups) → length (without_set gs name) ≤ length gs
    fewer [] = omega arith
    fewer (g ∷ gs) = elim (bytes_eq name g.0) as (λ b. length (cond b gs (g ∷ without_set gs name)) ≤ length (g ∷ gs)) [
      | true ↦ omega arith
      | false ↦ omega (arith, fewer gs)
    ]

    still : (gs : Groups) → list_all is_sound (limits_of gs) ≡ true → list_all is_sound (limits_of (without_set gs name)) ≡ true
    still [] h = h
    still (g ∷ gs) h = let parts = and_parts _ _ h in
        (elim (bytes_eq name g.0) as (λ b. list_all is_sound (limits_of (cond b gs (g ∷ without_set gs name))) ≡ true) [
          | true ↦ parts.1
          | false ↦ and_from _ _ parts.0 (still gs parts.1)
        ])

-- the roles and the number of a set that is there
pub sound_limit_of : (groups : Groups) (name : List ℕ) (limit : Limit) → list_all is_sound (limits_of groups) ≡ true → limit_of groups name ≡ Some limit → is_sound limit ≡ true
sound_limit_of [] name limit sound there = absurd (cc)
sound_limit_of (g ∷ groups) name limit sound there =
    let parts = and_parts _ _ sound in
    elim (bytes_eq name g.0) as (λ b. cond b (Some g.1) (limit_of groups name) ≡ Some limit → is_sound limit ≡ true) [
      | true ↦ λ h. (let same : g.1 ≡ limit = cc in subst (λ l. is_sound l ≡ true) same parts.0)
      | false ↦ λ h. sound_limit_of groups name limit parts.1 h
    ] there

pub sound_found : (groups : Groups) (name : List ℕ) (found : Option Limit) → list_all is_sound (limits_of groups) ≡ true → found ≡ limit_of groups name → IfSome found (λ limit. is_sound limit ≡ true)
sound_found groups name None sound e = tt
sound_found groups name (Some limit) sound e = sound_limit_of groups name limit sound (sym e)

pub is_sound-limit_with : (role : ℕ) (limit : Limit) → is_sound limit ≡ true → is_sound (limit_with role limit) ≡ true
is_sound-limit_with role limit sound =
    let parts = and_parts _ _ sound in
    let more : count_ones limit.roles ≤ count_ones (with_role limit.roles role) =
    count_fewer _ _ limit.roles (below_power _) (λ q h. has-with_role limit.roles role q ∙ or_left _ _ h) in
    let fits : limit.number ≤ count_ones limit.roles = leb-true _ _ parts.1 in
    and_from _ _ parts.0 (le-leb limit.number (count_ones (with_role limit.roles role)) (omega (arith, more, fits)))

-- the refusals of a new set
pub Says-is : (e : SetFault) (refusal : Option SetFault) → refusal ≡ Some e → Says e refusal
Says-is fault.NoSet refusal h = h
Says-is fault.Already refusal h = h
Says-is fault.Member refusal h = h
Says-is fault.Small refusal h = h
Says-is fault.Large refusal h = h
Says-is fault.Full refusal h = h
Says-is fault.NoMemory refusal h = tt

module _ (groups : Groups) (name : List ℕ) (roles number : ℕ) where
  pub create_refusal-some : (e : SetFault) → new_refusal groups name roles number ≡ Some e → create_refusal groups name roles number ≡ Some e
  unfolding create_refusal
  create_refusal-some e h = ap (λ o. option_or o (cond (leb 64 (length groups)) (Some fault.Full) None)) h

  pub create_refusal-full : new_refusal groups name roles number ≡ None → 64 ≤ length groups → create_refusal groups name roles number ≡ Some fault.Full
  unfolding create_refusal
  create_refusal-full h all =
      ap (λ o. option_or o (cond (leb 64 (length groups)) (Some fault.Full) None)) h
      ∙ cond-true (leb 64 (length groups)) (Some fault.Full) None (le-leb _ _ all)

  pub create_refusal-none : new_refusal groups name roles number ≡ None → length groups < 64 → create_refusal groups name roles number ≡ None
  unfolding create_refusal
  create_refusal-none h room =
      ap (λ o. option_or o (cond (leb 64 (length groups)) (Some fault.Full) None)) h
      ∙ cond-false (leb 64 (length groups)) (Some fault.Full) None (lt-leb _ _ room)

-- fewer given roles break no more sets
pub first_broken-fewer : (few many : ℕ) (groups : Groups) → ((q : ℕ) → has few q ≡ true → has many q ≡ true) → first_broken many groups ≡ None → first_broken few groups ≡ None
first_broken-fewer few many [] within none = first_broken-none few
first_broken-fewer few many (g ∷ groups) within none =
    let front = first_broken-front many g groups none in
    let fewer : count_ones (bit_and g.1.roles few) ≤ count_ones (bit_and g.1.roles many) =
    count_fewer _ _ (bit_and g.1.roles few) (below_power _)
    (λ q h. let parts = and_parts _ _ (sym (has-bit_and g.1.roles few q) ∙ h) in
    has-bit_and g.1.roles many q ∙ and_from _ _ parts.0 (within q parts.1)) in
    let below : count_ones (bit_and g.1.roles many) < g.1.number = leb-false _ _ front.0 in
    first_broken-skip few g groups (lt-leb _ _ (omega (arith, fewer, below))) ∙ first_broken-fewer few many groups within front.1

-- the sets before the first that is broken by one of them do not count
breaking-past : (all : List ℕ) (xs ys : Groups) → first_breaking all xs ≡ None → first_breaking all (xs ++ ys) ≡ first_breaking all ys
unfolding first_breaking
breaking-past all [] ys none = refl
breaking-past all (e ∷ xs) ys none =
    elim (list_any (λ given. is_broken given e.1) all) as (λ b. cond b (Some e.0) (first_breaking all xs) ≡ None → cond b (Some e.0) (first_breaking all (xs ++ ys)) ≡ first_breaking all ys) [
      | true ↦ λ h. cc
      | false ↦ λ h. breaking-past all xs ys h
    ] none

pub breaking-here : (all : List ℕ) (es : Groups) (i : ℕ) (g : List ℕ × Limit) → first_breaking all (take i es) ≡ None → slice_get es i ≡ Some g → list_any (λ given. is_broken given g.1) all ≡ true → first_breaking all es ≡ Some g.0
unfolding first_breaking
breaking-here all es i g none here broken =
    ap (first_breaking all) (sym (take-append-drop i es) ∙ ap (λ r. take i es ++ r) (drop_at es i g here))
    ∙ breaking-past all (take i es) (g ∷ drop (i + 1) es) none
    ∙ cond-true (list_any (λ given. is_broken given g.1) all) (Some g.0) (first_breaking all (drop (i + 1) es)) broken

pub breaking-more : (all : List ℕ) (es : Groups) (i : ℕ) (g : List ℕ × Limit) → first_breaking all (take i es) ≡ None → slice_get es i ≡ Some g → list_any (λ given. is_broken given g.1) all ≡ false → first_breaking all (take (i + 1) es) ≡ None
unfolding first_breaking
breaking-more all es i g none here broken =
    ap (first_breaking all) (take_at es i g here)
    ∙ breaking-past all (take i es) (g ∷ []) none
    ∙ cond-false (list_any (λ given. is_broken given g.1) all) (Some g.0) None broken

pub breaking-none : (all : List ℕ) → first_breaking all [] ≡ None
unfolding first_breaking
breaking-none all = refl

-- one more set
pub breaking-with_set : (all : List ℕ) (groups : Groups) (name : List ℕ) (limit : Limit) → first_breaking all groups ≡ None → first_breaking all (with_set groups name limit) ≡ cond (list_any (λ given. is_broken given limit) all) (Some name) None
unfolding first_breaking
breaking-with_set all groups name limit none = breaking-past all groups ((name, limit) ∷ []) none

-- whether one of these sets of roles breaks the set
abbrev pub some_breaks : List ℕ → Limit → Bool
some_breaks all limit = list_any (λ given. is_broken given limit) all

-- the first set is not broken by one of them, nor any after it
breaking-front : (all : List ℕ) (g : List ℕ × Limit) (groups : Groups) → first_breaking all (g ∷ groups) ≡ None → (some_breaks all g.1 ≡ false) × (first_breaking all groups ≡ None)
unfolding first_breaking
breaking-front all g groups none =
    elim (some_breaks all g.1) as (λ b. cond b (Some g.0) (first_breaking all groups) ≡ None → (b ≡ false) × (first_breaking all groups ≡ None)) [
      | true ↦ λ h. absurd (cc)
      | false ↦ λ h. (refl, h)
    ] none

breaking-skip : (all : List ℕ) (g : List ℕ × Limit) (groups : Groups) → some_breaks all g.1 ≡ false → first_breaking all (g ∷ groups) ≡ first_breaking all groups
unfolding first_breaking
breaking-skip all g groups whole = cond-false (some_breaks all g.1) (Some g.0) (first_breaking all groups) whole

breaking-at : (all : List ℕ) (name : List ℕ) (limit : Limit) (groups : Groups) → first_breaking all groups ≡ None → first_breaking all ((name, limit) ∷ groups) ≡ cond (some_breaks all limit) (Some name) None
unfolding first_breaking
breaking-at all name limit groups none = ap (cond (some_breaks all limit) (Some name)) none

-- one set with other roles or another number is the only one that they may break
pub breaking-changed : (all : List ℕ) (groups : Groups) (name : List ℕ) (f : Limit → Limit) (limit : Limit) → limit_of groups name ≡ Some limit → first_breaking all groups ≡ None →
    first_breaking all (changed groups name f) ≡ cond (some_breaks all (f limit)) (Some name) None
breaking-changed all [] name f limit there none = absurd (cc)
breaking-changed all (g ∷ groups) name f limit there none = by (bytes_eq name g.0) refl there (λ found. breaking-changed all groups name f limit found (breaking-front all g groups none).1)
  where
    front : (some_breaks all g.1 ≡ false) × (first_breaking all groups ≡ None)
    front = breaking-front all g groups none

    by : (b : Bool) → bytes_eq name g.0 ≡ b → cond b (Some g.1) (limit_of groups name) ≡ Some limit →
        (limit_of groups name ≡ Some limit → first_breaking all (changed groups name f) ≡ cond (some_breaks all (f limit)) (Some name) None) →
        first_breaking all (cond b ((g.0, f g.1) ∷ groups) (g ∷ changed groups name f)) ≡ cond (some_breaks all (f limit)) (Some name) None
    by true e found rest =
        let same : g.1 ≡ limit = cc in
        let own : name ≡ g.0 = (bytes_eq-Decides name g.0).0 e in
        breaking-at all g.0 (f g.1) groups front.1 ∙ ap (λ l. cond (some_breaks all (f l)) (Some g.0) None) same ∙ ap (λ n. cond (some_breaks all (f limit)) (Some n) None) (sym own)
    by false e found rest = breaking-skip all g (changed groups name f) front.0 ∙ rest found

-- a change that breaks no set
breaking-changed_fewer : (all : List ℕ) (groups : Groups) (name : List ℕ) (f : Limit → Limit) → ((limit : Limit) → some_breaks all limit ≡ false → some_breaks all (f limit) ≡ false) →
    first_breaking all groups ≡ None → first_breaking all (changed groups name f) ≡ None
breaking-changed_fewer all [] name f fewer none = none
breaking-changed_fewer all (g ∷ groups) name f fewer none = elim (bytes_eq name g.0) as (λ b. first_breaking all (cond b ((g.0, f g.1) ∷ groups) (g ∷ changed groups name f)) ≡ None) [
  | true ↦ breaking-skip all (g.0, f g.1) groups (fewer g.1 front.0) ∙ front.1
  | false ↦ breaking-skip all g (changed groups name f) front.0 ∙ breaking-changed_fewer all groups name f fewer front.1
]
  where
    front : (some_breaks all g.1 ≡ false) × (first_breaking all groups ≡ None)
    front = breaking-front all g groups none

-- a set without one of its roles
pub breaking-without_member : (all : List ℕ) (groups : Groups) (name : List ℕ) (role : ℕ) → first_breaking all groups ≡ None → first_breaking all (without_member groups name role) ≡ None
breaking-without_member all groups name role none = breaking-changed_fewer all groups name (limit_without role) (λ limit whole. each limit all whole) none
  where
    each : (limit : Limit) (xs : List ℕ) → some_breaks xs limit ≡ false → some_breaks xs (limit_without role limit) ≡ false
    each limit [] whole = refl
    each limit (x ∷ xs) whole = (let parts = or_parts _ _ whole in ap₂ (λ s t. s || t) (is_broken-limit_without x role limit parts.0) (each limit xs parts.1))

-- one set fewer
pub breaking-without_set : (all : List ℕ) (groups : Groups) (name : List ℕ) → first_breaking all groups ≡ None → first_breaking all (without_set groups name) ≡ None
breaking-without_set all [] name none = none
breaking-without_set all (g ∷ groups) name none = elim (bytes_eq name g.0) as (λ b. first_breaking all (cond b groups (g ∷ without_set groups name)) ≡ None) [
  | true ↦ front.1
  | false ↦ breaking-skip all g (without_set groups name) front.0 ∙ breaking-without_set all groups name front.1
]
  where
    front : (some_breaks all g.1 ≡ false) × (first_breaking all groups ≡ None)
    front = breaking-front all g groups none
