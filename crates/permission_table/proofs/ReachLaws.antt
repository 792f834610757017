-- Sets of places, one for each block of places and each role, against the roles that are reached at each place.
use Rattle.std.proofs.Common.{◌≡◌, ◌≢◌, ℕ, zero, suc, ◌+◌, ◌-◌, ◌*◌, ◌/◌, ◌%◌, ◌<◌, ◌≤◌, ◌&&◌, ◌||◌, ◌⊎◌, Bool, true, false, not, cond, eqb, List, [], ◌∷◌, ◌++◌, length, map, take, set, get_or, replicate, Option, Some, None, IfNone, Result, Ok, Err, OnOk, if◌then◌else◌, sym, refl, ap, ap₂, ◌∙◌, arith, inl, inr, eq-eqb}
use Rattle.std.specs.Prelude.{nat_eq, nat_lt, slice_get, unwrap_or, is_some, position}
use Rattle.std.specs.List.{position_or_len}
use Rattle.std.specs.Map.{lookup, keys_of}
use Rattle.std.specs.Option.{option_map, option_map_or}
use Rattle.std.proofs.lemmas.Bool.{cases_eq, cases_lt, ne_eqb, eqb-true, ltb-true, lt-ltb, le-ltb, false≢true, true≢false}
use Rattle.std.proofs.lemmas.List.{get_or-set_same, get_or-set_other, get_or_append_left, get_or-append_right, get_or_past, get_or-take, get_or-replicate, length-take, length-map, length-append, length-replicate, take_all}
use Rattle.std.proofs.lemmas.Option.{slice_get-map, get_or_from_slice_get, slice_get_within}
use Rattle.indexmap.specs.IndexMap.{insert_entry, swap_remove_entry, set_value_at}
use Rattle.indexmap.specs.Layout.{length-set_value_at}
use Rattle.indexmap.proofs.MapLemmas.{swap_remove_entry-found, swap_remove-default}
use Rattle.std.proofs.lemmas.Map.Entries.{length-keys_of}
use Rattle.indexmap.proofs.SetLemmas.{map-swap_remove}
use Rattle.role_hierarchy.specs.Roles.{has, with_role, without}
use Rattle.role_hierarchy.specs.RoleLaws.{has-empty, has-with_role, has-without}
use Rattle.permission_table.specs.Bits.{SessionAccess}
use Rattle.permission_table.specs.Reaching.{is_marked, reach_at, AreMarksOf, AreReached}
use Rattle.permission_table.specs.Rights.{changed_at, all_changed}
use Rattle.permission_table.proofs.PlaceLaws.{changed_by_writing, changed_first, changed_none, changed_next, changed_past}

and_false : (t : Bool) → (t && false) ≡ false
and_false true = refl
and_false false = refl

-- the set of a role for the block of a place
abbrev pub index : ℕ → ℕ → ℕ
index role place = 256 * (place / 256) + role

pub inside : (sets : List ℕ) (role place : ℕ) → length sets % 256 ≡ 0 → role < 256 → place < length sets → index role place < length sets
inside sets role place whole small within = omega (arith, whole)

-- no place is behind the last block
pub in_blocks : (q block first len n : ℕ) → q < n → len ≡ n → n % 256 ≡ 0 → len / 256 ≤ block → q < 256 * block + first
in_blocks q block first len n within same whole past = omega (arith, within, same, whole, past)

-- within one block a place is told by its number in the block
in_block : (p q : ℕ) → p / 256 ≡ q / 256 → eqb (p % 256) (q % 256) ≡ eqb p q
in_block p q same = elim (cases_eq p q) [
  | inl e ↦ ap₂ eqb (ap (λ n. n % 256) e) refl ∙ eq-eqb _ _ refl ∙ sym (eq-eqb p q e)
  | inr ne ↦ ne_eqb _ _ (λ e. ne (omega (arith, e, same))) ∙ sym (ne_eqb p q ne)
]

module _ (sets : List ℕ) (place r : ℕ) (whole : length sets % 256 ≡ 0) (small : r < 256) (within : place < length sets) where
  module _ (f : ℕ → ℕ → ℕ) where
    abbrev changed : List ℕ
    changed = set sets (index r place) (f (get_or sets (index r place) 0) (place % 256))

    other : (role q : ℕ) → index role q ≢ index r place → is_marked changed role q ≡ is_marked sets role q
    unfolding is_marked
    other role q ne = ap (λ n. has n (q % 256)) (get_or-set_other sets (index r place) (index role q) _ 0 ne)

    same : (role q : ℕ) → index role q ≡ index r place → is_marked changed role q ≡ has (f (get_or sets (index role q) 0) (place % 256)) (q % 256)
    unfolding is_marked
    same role q e =
        ap (λ n. has n (q % 256)) (ap (λ i. get_or changed i 0) e ∙ get_or-set_same sets (index r place) _ 0 (inside sets r place whole small within))
        ∙ ap (λ i. has (f (get_or sets i 0) (place % 256)) (q % 256)) (sym e)

  -- they differ at the place and the role alone
  apart : (role q : ℕ) → role < 256 → index role q ≢ index r place → (eqb q place && eqb role r) ≡ false
  apart role q low ne = by (eqb q place) (eqb role r) refl refl
    where
      by : (s t : Bool) → eqb q place ≡ s → eqb role r ≡ t → (s && t) ≡ false
      by false t hs ht = refl
      by true false hs ht = refl
      by true true hs ht = absurd (ne (ap₂ index (eqb-true role r ht) (eqb-true q place hs)))

  block : (role q : ℕ) → role < 256 → index role q ≡ index r place → (q / 256 ≡ place / 256) × (role ≡ r)
  block role q low e = (omega (arith, small), omega (arith, small))

  at_place : (role q : ℕ) → role < 256 → index role q ≡ index r place → eqb (q % 256) (place % 256) ≡ (eqb q place && eqb role r)
  at_place role q low e =
      let b = block role q low e in
      in_block q place b.0 ∙ sym (ap (λ t. eqb q place && t) (eq-eqb role r b.1) ∙ and_true (eqb q place))
    where
      and_true : (t : Bool) → (t && true) ≡ t
      and_true true = refl
      and_true false = refl

  or_swap : (s t : Bool) → (s || t) ≡ (t || s)
  or_swap true true = refl
  or_swap true false = refl
  or_swap false true = refl
  or_swap false false = refl

  marked : (role q : ℕ) → has (get_or sets (index role q) 0) (q % 256) ≡ is_marked sets role q
  unfolding is_marked
  marked role q = refl

  pub entered : (role q : ℕ) → role < 256 → is_marked (changed with_role) role q ≡ ((eqb q place && eqb role r) || is_marked sets role q)
  entered role q low = elim (cases_eq (index role q) (index r place)) [
    | inl e ↦ same with_role role q e ∙ has-with_role _ _ _ ∙ or_swap (has (get_or sets (index role q) 0) (q % 256)) (eqb (q % 256) (place % 256)) ∙ ap₂ (λ s t. s || t) (at_place role q low e) (marked role q)
    | inr ne ↦ other with_role role q ne ∙ sym (ap (λ t. t || is_marked sets role q) (apart role q low ne))
  ]

  pub removed : (role q : ℕ) → role < 256 → is_marked (changed without) role q ≡ (not (eqb q place && eqb role r) && is_marked sets role q)
  removed role q low = elim (cases_eq (index role q) (index r place)) [
    | inl e ↦ same without role q e ∙ has-without _ _ _ ∙ ap₂ (λ s t. not s && t) (at_place role q low e) (marked role q)
    | inr ne ↦ other without role q ne ∙ sym (ap (λ t. not t && is_marked sets role q) (apart role q low ne))
  ]

-- the members below the next one, and itself
pub member_next : (roles from r role : ℕ) → has roles r ≡ true → from ≤ r → ((q : ℕ) → from ≤ q → q < r → has roles q ≡ false) →
    (nat_lt role (r + 1) && has roles role) ≡ ((nat_lt role from && has roles role) || eqb role r)
member_next roles from r role is above between = elim (cases_eq role r) [
  | inl e ↦
      ap₂ (λ s t. s && t) (lt-ltb role (r + 1) (omega (arith, e))) (ap (has roles) e ∙ is)
      ∙ sym (ap (λ t. (nat_lt role from && has roles role) || t) (eq-eqb role r e) ∙ or_true (nat_lt role from && has roles role))
  | inr ne ↦
      elim (cases_lt role from) [
        | inl low ↦
            ap (λ t. t && has roles role) (lt-ltb role (r + 1) (omega (arith, low, above)))
            ∙ sym (ap₂ (λ s t. (s && has roles role) || t) (lt-ltb role from low) (ne_eqb role r ne) ∙ or_false (has roles role))
        | inr high ↦
            past high ne (cases_lt role r)
            ∙ sym (ap₂ (λ s t. (s && has roles role) || t) (le-ltb role from high) (ne_eqb role r ne))
      ]
]
  where
    or_true : (t : Bool) → (t || true) ≡ true
    or_true true = refl
    or_true false = refl

    or_false : (t : Bool) → (t || false) ≡ t
    or_false true = refl
    or_false false = refl

    past : from ≤ role → role ≢ r → (role < r) ⊎ (r ≤ role) → (nat_lt role (r + 1) && has roles role) ≡ false
    past high ne (inl below) = ap (λ t. nat_lt role (r + 1) && t) (between role high below) ∙ and_false (nat_lt role (r + 1))
    past high ne (inr over) = ap (λ t. t && has roles role) (le-ltb role (r + 1) (omega (arith, over, ne)))

pub member_none : (roles from role : ℕ) → ((q : ℕ) → from ≤ q → has roles q ≡ false) → (nat_lt role from && has roles role) ≡ has roles role
member_none roles from role none = elim (cases_lt role from) [
  | inl low ↦ ap (λ t. t && has roles role) (lt-ltb role from low)
  | inr high ↦ ap (λ t. nat_lt role from && t) (none role high) ∙ and_false (nat_lt role from) ∙ sym (none role high)
]

pub enter_more : (a b c d : Bool) → ((a && b) || ((a && c) || d)) ≡ ((a && (c || b)) || d)
enter_more false b c d = refl
enter_more true true true d = refl
enter_more true true false d = refl
enter_more true false true d = refl
enter_more true false false d = refl

pub leave_more : (a b c d : Bool) → (not (a && b) && (not (a && c) && d)) ≡ (not (a && (c || b)) && d)
leave_more false b c d = refl
leave_more true true true d = refl
leave_more true true false d = refl
leave_more true false true d = refl
leave_more true false false d = refl

-- one set of roles at a place gives way to another
pub turn_over : (a old from to : Bool) → (a ≡ true → old ≡ from) → ((a && to) || (not (a && from) && old)) ≡ cond a to old
turn_over false old from to h = refl
turn_over true old from true h = refl
turn_over true true true false h = refl
turn_over true false true false h = refl
turn_over true false false false h = refl
turn_over true true false false h = absurd (true≢false (h refl))

-- what is reached at the places after such a change
pub turned_marks : (sets new : List ℕ) (reach : ℕ → ℕ) (place to : ℕ) → AreMarksOf sets reach → length new ≡ length sets →
    ((role q : ℕ) → role < 256 → q < length sets → is_marked new role q ≡ cond (nat_eq q place) (has to role) (is_marked sets role q)) →
    AreMarksOf new (λ q. cond (nat_eq q place) to (reach q))
turned_marks sets new reach place to marks long turned role q small within = turned role q small (omega (arith, long)) ∙ by (nat_eq q place)
  where
    by : (t : Bool) → cond t (has to role) (is_marked sets role q) ≡ has (cond t to (reach q)) role
    by true = refl
    by false = marks role q small (omega (arith, long))

pub same_marks : (sets : List ℕ) (reach reached : ℕ → ℕ) → ((q : ℕ) → reached q ≡ reach q) → AreMarksOf sets reach → AreMarksOf sets reached
same_marks sets reach reached same marks role q small within = marks role q small within ∙ ap (λ n. has n role) (sym (same q))

-- a block of empty sets
pub block_same : (sets : List ℕ) (n : ℕ) (role place : ℕ) → length sets % 256 ≡ 0 → role < 256 → place < length sets → is_marked (sets ++ replicate n 0) role place ≡ is_marked sets role place
unfolding is_marked
block_same sets n role place whole small within = ap (λ s. has s (place % 256)) (get_or_append_left sets (replicate n 0) 0 (index role place) (inside sets role place whole small within))

pub block_new : (sets : List ℕ) (role place : ℕ) → length sets % 256 ≡ 0 → role < 256 → length sets ≤ place → place < length sets + 256 → is_marked (sets ++ replicate 256 0) role place ≡ false
unfolding is_marked
block_new sets role place whole small above within =
    ap (λ s. has s (place % 256)) (get_or-append_right sets (replicate 256 0) (length sets) (index role place) 0 refl (omega (arith, whole, above, within))
    ∙ get_or-replicate 256 (index role place - length sets) 0 0 (omega (arith, whole, above, within)))
    ∙ has-empty (place % 256)

-- what memory that may lack leaves
module _ (sets new : List ℕ) (ok : Bool) (n k z : ℕ) (is : new ≡ cond ok (take n sets ++ replicate k z) sets) (long : length sets ≤ n) (more : k ≡ 256) (none : z ≡ 0) (whole : length sets % 256 ≡ 0) where
  grown : take n sets ++ replicate k z ≡ sets ++ replicate 256 0
  grown = ap₂ (λ xs ys. xs ++ ys) (take_all n sets long) (ap₂ (λ a b. replicate a b) more none)

  pub resized_same : (role place : ℕ) → role < 256 → place < length sets → is_marked new role place ≡ is_marked sets role place
  resized_same role place small within = ap (λ x. is_marked x role place) is ∙ by ok
    where
      by : (t : Bool) → is_marked (cond t (take n sets ++ replicate k z) sets) role place ≡ is_marked sets role place
      by true = ap (λ x. is_marked x role place) grown ∙ block_same sets 256 role place whole small within
      by false = refl

  pub resized_new : (role place : ℕ) → role < 256 → length sets ≤ place → place < length new → is_marked new role place ≡ false
  resized_new role place small above within = ap (λ x. is_marked x role place) is ∙ by ok (omega (arith, within, ap length is))
    where
      by : (t : Bool) → place < length (cond t (take n sets ++ replicate k z) sets) → is_marked (cond t (take n sets ++ replicate k z) sets) role place ≡ false
      by true h = ap (λ x. is_marked x role place) grown ∙ block_new sets role place whole small above (omega (arith, h, ap length grown, length-append sets (replicate 256 0), length-replicate {A = ℕ} 256 0))
      by false h = absurd (omega (arith, h, above))

-- a place is told by the block and its number there
pub unmarked : (sets : List ℕ) (block role place : ℕ) → role < 256 → 256 * block ≤ place → place < 256 * block + 256 → has (get_or sets (256 * block + role) 0) (place - 256 * block) ≡ false → is_marked sets role place ≡ false
unfolding is_marked
unmarked sets block role place small low high h =
    let b : place / 256 ≡ block = omega (arith, low, high) in
    let m : place % 256 ≡ place - 256 * block = omega (arith, low, high) in
    ap₂ (λ k n. has (get_or sets (256 * k + role) 0) n) b m ∙ h

-- the roles that are reached at a place
pub reach_of : (es : List (ℕ × SessionAccess)) (place : ℕ) (e : ℕ × SessionAccess) → slice_get es place ≡ Some e → reach_at es place ≡ e.1.reach
reach_of es place e at = get_or_from_slice_get (map (λ x. x.1.reach) es) place e.1.reach 0 (slice_get-map (λ x. x.1.reach) es place ∙ ap (option_map (λ (x : ℕ × SessionAccess). x.1.reach)) at)

pub reach_past : (es : List (ℕ × SessionAccess)) (place : ℕ) → length es ≤ place → reach_at es place ≡ 0
reach_past [] place h = refl
reach_past (e ∷ es) zero h = absurd (omega (arith, h))
reach_past (e ∷ es) (suc place) h = reach_past es place (omega (arith, h))

pub reach_missing : (es : List (ℕ × SessionAccess)) (place : ℕ) → slice_get es place ≡ None → reach_at es place ≡ 0
reach_missing [] place h = refl
reach_missing (e ∷ es) zero h = absurd (false≢true (ap (λ (o : Option (ℕ × SessionAccess)). option_map_or (λ x. false) o true) h))
reach_missing (e ∷ es) (suc place) h = reach_missing es place h

-- one session's value changed in place
module _ (reached rest to : ℕ) where
  -- what is reached at a place, where it is told at one and at the others
  pub told : (q place : ℕ) → (q ≡ place → reached ≡ to) → (q ≢ place → reached ≡ rest) → reached ≡ cond (nat_eq q place) to rest
  told q place is isnt = elim (cases_eq q place) [
    | inl e ↦ is e ∙ sym (ap (λ t. cond t to rest) (eq-eqb q place e))
    | inr ne ↦ isnt ne ∙ sym (ap (λ t. cond t to rest) (ne_eqb q place ne))
  ]

changed_here : (f : ℕ → SessionAccess → SessionAccess) (es : List (ℕ × SessionAccess)) (place : ℕ) (e : ℕ × SessionAccess) → slice_get es place ≡ Some e → reach_at (changed_at f es place) place ≡ (f e.0 e.1).reach
changed_here f [] place e at = absurd (false≢true (ap is_some at))
changed_here f (x ∷ es) zero e at = ap (λ (o : Option (ℕ × SessionAccess)). (f (unwrap_or o x).0 (unwrap_or o x).1).reach) at
changed_here f (x ∷ es) (suc place) e at = changed_here f es place e at

changed_else : (f : ℕ → SessionAccess → SessionAccess) (es : List (ℕ × SessionAccess)) (place q : ℕ) → q ≢ place → reach_at (changed_at f es place) q ≡ reach_at es q
changed_else f [] place q ne = refl
changed_else f (x ∷ es) zero zero ne = absurd (ne refl)
changed_else f (x ∷ es) zero (suc q) ne = refl
changed_else f (x ∷ es) (suc place) zero ne = refl
changed_else f (x ∷ es) (suc place) (suc q) ne = changed_else f es place q (λ e. ne (ap suc e))

pub reach_changed : (f : ℕ → SessionAccess → SessionAccess) (es : List (ℕ × SessionAccess)) (place : ℕ) (e : ℕ × SessionAccess) → slice_get es place ≡ Some e →
    (q : ℕ) → reach_at (changed_at f es place) q ≡ cond (nat_eq q place) (f e.0 e.1).reach (reach_at es q)
reach_changed f es place e at q =
    told (reach_at (changed_at f es place) q) (reach_at es q) (f e.0 e.1).reach q place
    (λ same. ap (reach_at (changed_at f es place)) same ∙ changed_here f es place e at) (changed_else f es place q)

pub reach_unchanged : (f : ℕ → SessionAccess → SessionAccess) → ((k : ℕ) (v : SessionAccess) → (f k v).reach ≡ v.reach) → (es : List (ℕ × SessionAccess)) (place : ℕ) →
    (q : ℕ) → reach_at (changed_at f es place) q ≡ reach_at es q
reach_unchanged f same [] place q = refl
reach_unchanged f same (e ∷ es) zero zero = same e.0 e.1
reach_unchanged f same (e ∷ es) zero (suc q) = refl
reach_unchanged f same (e ∷ es) (suc place) zero = refl
reach_unchanged f same (e ∷ es) (suc place) (suc q) = reach_unchanged f same es place q

pub length_changed : {V : Type 0} (f : ℕ → V → V) (es : List (ℕ × V)) (place : ℕ) → length (changed_at f es place) ≡ length es
length_changed f [] place = refl
length_changed f (e ∷ es) zero = refl
length_changed f (e ∷ es) (suc place) = ap suc (length_changed f es place)

-- a value that is written at a place
pub reach_written : (es : List (ℕ × SessionAccess)) (place k : ℕ) (v w : SessionAccess) → slice_get es place ≡ Some (k, v) → (q : ℕ) → reach_at (set_value_at es place w) q ≡ cond (nat_eq q place) w.reach (reach_at es q)
reach_written es place k v w at q = ap (λ x. reach_at x q) (changed_by_writing (λ k v. w) es place k v w at refl) ∙ reach_changed (λ k v. w) es place (k, v) at q

-- the sets after the value at a place was changed, and what it reaches is the same
pub kept_reached : (sets : List ℕ) (es : List (ℕ × SessionAccess)) (place k : ℕ) (v w : SessionAccess) → slice_get es place ≡ Some (k, v) → w.reach ≡ v.reach → AreReached sets es → AreReached sets (set_value_at es place w)
kept_reached sets es place k v w at same reached = record {
  whole = reached.whole;
  within = omega (arith, reached.within, length-set_value_at es place w);
  marks = same_marks sets (reach_at es) (reach_at (set_value_at es place w)) (λ q. reach_written es place k v w at q ∙ by q (nat_eq q place) refl) reached.marks;
}
  where
    by : (q : ℕ) (t : Bool) → nat_eq q place ≡ t → cond t w.reach (reach_at es q) ≡ reach_at es q
    by q true h = same ∙ sym (reach_of es place (k, v) at) ∙ ap (reach_at es) (sym (eqb-true q place h))
    by q false h = refl

-- the sets after what is reached at a place has turned
pub turned_reached : (sets new : List ℕ) (es fresh : List (ℕ × SessionAccess)) (place to : ℕ) → AreReached sets es → length new ≡ length sets →
    ((role q : ℕ) → role < 256 → q < length sets → is_marked new role q ≡ cond (nat_eq q place) (has to role) (is_marked sets role q)) →
    length fresh ≤ length sets → ((q : ℕ) → reach_at fresh q ≡ cond (nat_eq q place) to (reach_at es q)) → AreReached new fresh
turned_reached sets new es fresh place to reached long turned few told = record {
  whole = ap (λ n. n % 256) long ∙ reached.whole;
  within = omega (arith, few, long);
  marks = same_marks new (λ q. cond (nat_eq q place) to (reach_at es q)) (reach_at fresh) told (turned_marks sets new (reach_at es) place to reached.marks long turned);
}

pub turned_written : (sets new : List ℕ) (es : List (ℕ × SessionAccess)) (place k to : ℕ) (v w : SessionAccess) → slice_get es place ≡ Some (k, v) → w.reach ≡ to → AreReached sets es → length new ≡ length sets →
    ((role q : ℕ) → role < 256 → q < length sets → is_marked new role q ≡ cond (nat_eq q place) (has to role) (is_marked sets role q)) → AreReached new (set_value_at es place w)
turned_written sets new es place k to v w at is reached long turned =
    turned_reached sets new es (set_value_at es place w) place to reached long turned (omega (arith, reached.within, length-set_value_at es place w))
    (λ q. reach_written es place k v w at q ∙ ap (λ n. cond (nat_eq q place) n (reach_at es q)) is)

-- more places than before
pub reserved_reached : (sets new : List ℕ) (es : List (ℕ × SessionAccess)) → AreReached sets es → length new % 256 ≡ 0 → length sets ≤ length new →
    ((role place : ℕ) → role < 256 → place < length sets → is_marked new role place ≡ is_marked sets role place) →
    ((role place : ℕ) → role < 256 → length sets ≤ place → place < length new → is_marked new role place ≡ false) → AreReached new es
reserved_reached sets new es reached whole longer same none = record {
  whole = whole;
  within = omega (arith, reached.within, longer);
  marks = λ role place small within. elim (cases_lt place (length sets)) [
    | inl old ↦ same role place small old ∙ reached.marks role place small old
    | inr past ↦ none role place small past within ∙ sym (has-empty role) ∙ ap (λ n. has n role) (sym (reach_past es place (omega (arith, reached.within, past))))
  ];
}

pub none_reached : (sets : List ℕ) (es : List (ℕ × SessionAccess)) → es ≡ [] → length sets % 256 ≡ 0 → ((role place : ℕ) → role < 256 → place < length sets → is_marked sets role place ≡ false) → AreReached sets es
none_reached sets es empty whole none = record {
  whole = whole;
  within = omega (arith, ap length empty);
  marks = λ role place small within. none role place small within ∙ sym (has-empty role) ∙ ap (λ n. has n role) (sym (reach_past es place (omega (arith, ap length empty))));
}

pub none_map : (o : Option ℕ) (P Q : Type 0) → (P → Q) → IfNone o P → IfNone o Q
none_map None P Q f h = f h
none_map (Some x) P Q f h = tt

pub ok_map : {A E : Type 0} (r : Result A E) (P Q : Type 0) → (P → Q) → OnOk r P → OnOk r Q
ok_map (Ok x) P Q f h = f h
ok_map (Err e) P Q f h = tt

-- what is said of an entry is said of its place
pub mark_at : (sets : List ℕ) (es : List (ℕ × SessionAccess)) (place k role : ℕ) (v : SessionAccess) → AreReached sets es → slice_get es place ≡ Some (k, v) → role < 256 → is_marked sets role place ≡ has v.reach role
mark_at sets es place k role v reached at small =
    reached.marks role place small (omega (arith, slice_get_within es place (k, v) at, reached.within)) ∙ ap (λ n. has n role) (reach_of es place (k, v) at)

pub place_within : (sets : List ℕ) (es : List (ℕ × SessionAccess)) (place k : ℕ) (v : SessionAccess) → AreReached sets es → slice_get es place ≡ Some (k, v) → place < length sets
place_within sets es place k v reached at = omega (arith, slice_get_within es place (k, v) at, reached.within)

pub one_more : (t : Bool) → (if t then 0 else 1) ≤ 1
one_more true = omega arith
one_more false = omega arith

pub no_more_reach : (sets : List ℕ) (es : List (ℕ × SessionAccess)) (role from : ℕ) → role < 256 → AreReached sets es → ((q : ℕ) → from ≤ q → q < length sets → is_marked sets role q ≡ false) → (q : ℕ) → from ≤ q → has (reach_at es q) role ≡ false
no_more_reach sets es role from small reached none q low = elim (cases_lt q (length sets)) [
  | inl within ↦ sym (reached.marks role q small within) ∙ none q low within
  | inr past ↦ ap (λ n. has n role) (reach_past es q (omega (arith, reached.within, past))) ∙ has-empty role
]

-- a session that is put in
module _ (session : ℕ) (made : SessionAccess) where
  abbrev place_in : List (ℕ × SessionAccess) → ℕ
  place_in es = position_or_len (nat_eq session) (keys_of es)

  inserted_here : (es : List (ℕ × SessionAccess)) (p : ℕ) → p ≡ place_in es → reach_at (insert_entry nat_eq es session made) p ≡ made.reach
  inserted_here [] p at = ap (reach_at ((session, made) ∷ [])) at
  inserted_here (e ∷ es) p at = by (nat_eq session e.0) at (λ q. inserted_here es q)
    where
      by : (t : Bool) → p ≡ cond (not t) (1 + place_in es) 0 → ((q : ℕ) → q ≡ place_in es → reach_at (insert_entry nat_eq es session made) q ≡ made.reach)
          → reach_at (cond t ((e.0, made) ∷ es) (e ∷ insert_entry nat_eq es session made)) p ≡ made.reach
      by true at rest = ap (reach_at ((e.0, made) ∷ es)) at
      by false at rest = (let next : p ≡ suc (place_in es) = omega (arith, at) in ap (reach_at (e ∷ insert_entry nat_eq es session made)) next ∙ rest (place_in es) refl)

  inserted_else : (es : List (ℕ × SessionAccess)) (q : ℕ) → q ≢ place_in es → reach_at (insert_entry nat_eq es session made) q ≡ reach_at es q
  inserted_else [] zero ne = absurd (ne refl)
  inserted_else [] (suc q) ne = refl
  inserted_else (e ∷ es) q ne = by (nat_eq session e.0) q ne (λ r. inserted_else es r)
    where
      by : (t : Bool) (q : ℕ) → q ≢ cond (not t) (1 + place_in es) 0 → ((r : ℕ) → r ≢ place_in es → reach_at (insert_entry nat_eq es session made) r ≡ reach_at es r)
          → reach_at (cond t ((e.0, made) ∷ es) (e ∷ insert_entry nat_eq es session made)) q ≡ reach_at (e ∷ es) q
      by true zero ne rest = absurd (ne refl)
      by true (suc q) ne rest = refl
      by false zero ne rest = refl
      by false (suc q) ne rest = rest q (λ same. ne (omega (arith, same)))

  pub reach_inserted : (es : List (ℕ × SessionAccess)) (q : ℕ) → reach_at (insert_entry nat_eq es session made) q ≡ cond (nat_eq q (place_in es)) made.reach (reach_at es q)
  reach_inserted es q = told (reach_at (insert_entry nat_eq es session made) q) (reach_at es q) made.reach q (place_in es) (inserted_here es q) (inserted_else es q)

-- the roles that it reached before
before_at : (session : ℕ) (es : List (ℕ × SessionAccess)) (p : ℕ) → p ≡ position_or_len (nat_eq session) (keys_of es) → reach_at es p ≡ option_map_or (λ access. access.reach) (lookup (nat_eq session) es) 0
before_at session [] p at = refl
before_at session (e ∷ es) p at = by (nat_eq session e.0) at (λ q. before_at session es q)
  where
    by : (t : Bool) → p ≡ cond (not t) (1 + position_or_len (nat_eq session) (keys_of es)) 0 → ((q : ℕ) → q ≡ position_or_len (nat_eq session) (keys_of es) → reach_at es q ≡ option_map_or (λ (access : SessionAccess). access.reach) (lookup (nat_eq session) es) 0)
        → reach_at (e ∷ es) p ≡ option_map_or (λ (access : SessionAccess). access.reach) (cond t (Some e.1) (lookup (nat_eq session) es)) 0
    by true at rest = ap (reach_at (e ∷ es)) at
    by false at rest = (let next : p ≡ suc (position_or_len (nat_eq session) (keys_of es)) = omega (arith, at) in ap (reach_at (e ∷ es)) next ∙ rest (position_or_len (nat_eq session) (keys_of es)) refl)

pub reach_before : (session : ℕ) (es : List (ℕ × SessionAccess)) → reach_at es (position_or_len (nat_eq session) (keys_of es)) ≡ option_map_or (λ access. access.reach) (lookup (nat_eq session) es) 0
reach_before session es = before_at session es (position_or_len (nat_eq session) (keys_of es)) refl

-- a session that is taken out, with the last one in its place
pub reach_swapped : (rs : List ℕ) (i : ℕ) → i < length rs → (q : ℕ) →
    get_or (take (length rs - 1) (set rs i (get_or rs (length rs - 1) 0))) q 0 ≡ cond (nat_eq q (length rs - 1)) 0 (cond (nat_eq q i) (get_or rs (length rs - 1) 0) (get_or rs q 0))
reach_swapped rs i within q = elim (cases_lt q (length rs - 1)) [
  | inl low ↦
      get_or-take (length rs - 1) (set rs i (get_or rs (length rs - 1) 0)) q 0 low
      ∙ elim (cases_eq q i) [
        | inl e ↦
            ap (λ j. get_or (set rs i (get_or rs (length rs - 1) 0)) j 0) e ∙ get_or-set_same rs i (get_or rs (length rs - 1) 0) 0 within
            ∙ sym (ap₂ (λ s t. cond s 0 (cond t (get_or rs (length rs - 1) 0) (get_or rs q 0))) (ne_eqb q (length rs - 1) (omega (arith, low))) (eq-eqb q i e))
        | inr ne ↦
            get_or-set_other rs i q (get_or rs (length rs - 1) 0) 0 ne
            ∙ sym (ap₂ (λ s t. cond s 0 (cond t (get_or rs (length rs - 1) 0) (get_or rs q 0))) (ne_eqb q (length rs - 1) (omega (arith, low))) (ne_eqb q i ne))
      ]
  | inr high ↦ get_or_past (take (length rs - 1) (set rs i (get_or rs (length rs - 1) 0))) q 0 (omega (arith, high, length-take (length rs - 1) (set rs i (get_or rs (length rs - 1) 0)))) ∙ elim (cases_eq q (length rs - 1)) [
    | inl e ↦ sym (ap (λ s. cond s 0 (cond (nat_eq q i) (get_or rs (length rs - 1) 0) (get_or rs q 0))) (eq-eqb q (length rs - 1) e))
    | inr ne ↦
        sym (ap₂ (λ s t. cond s 0 (cond t (get_or rs (length rs - 1) 0) (get_or rs q 0))) (ne_eqb q (length rs - 1) ne) (ne_eqb q i (omega (arith, high, ne, within)))
        ∙ get_or_past rs q 0 (omega (arith, high, ne)))
  ]
]

pub found_within : (session : ℕ) (es : List (ℕ × SessionAccess)) (i : ℕ) → position (nat_eq session) (keys_of es) ≡ Some i → i < length es
found_within session es i at = by (nat_lt (position_or_len (nat_eq session) (keys_of es)) (length (keys_of es))) refl at
  where
    by : (t : Bool) → nat_lt (position_or_len (nat_eq session) (keys_of es)) (length (keys_of es)) ≡ t → cond t (Some (position_or_len (nat_eq session) (keys_of es))) None ≡ Some i → i < length es
    by true h is =
        let low : position_or_len (nat_eq session) (keys_of es) < length (keys_of es) = ltb-true _ _ h in
        let same : position_or_len (nat_eq session) (keys_of es) ≡ i = ap (λ (o : Option ℕ). unwrap_or o i) is in
        omega (arith, low, same, length-keys_of es)
    by false h is = absurd (false≢true (ap is_some is))

pub reach_removed : (session : ℕ) (es : List (ℕ × SessionAccess)) (i : ℕ) → position (nat_eq session) (keys_of es) ≡ Some i → (d : ℕ × SessionAccess) (q : ℕ) →
    reach_at (swap_remove_entry (nat_eq session) es) q ≡ cond (nat_eq q (length es - 1)) 0 (cond (nat_eq q i) (reach_at es (length es - 1)) (reach_at es q))
reach_removed session es i at d q =
    let reach : ℕ × SessionAccess → ℕ = λ e. e.1.reach in
    let long : length (map reach es) ≡ length es = length-map es reach in
    let within : i < length es = found_within session es i at in
    ap (λ x. reach_at x q) (swap_remove_entry-found (nat_eq session) es i d at)
    ∙ ap (λ rs. get_or rs q 0) (map-swap_remove reach es i d (omega (arith, within)) ∙ swap_remove-default (map reach es) i (reach d) 0 (omega (arith, within, long)))
    ∙ reach_swapped (map reach es) i (omega (arith, within, long)) q
    ∙ ap (λ n. cond (nat_eq q (n - 1)) 0 (cond (nat_eq q i) (reach_at es (n - 1)) (reach_at es q))) long

pub removed_reached : (sets one two : List ℕ) (es fresh : List (ℕ × SessionAccess)) (session place last moved none : ℕ) → AreReached sets es → position (nat_eq session) (keys_of es) ≡ Some place →
    last ≡ length es - 1 → moved ≡ reach_at es last → none ≡ 0 → length one ≡ length sets →
    ((role q : ℕ) → role < 256 → q < length sets → is_marked one role q ≡ cond (nat_eq q place) (has moved role) (is_marked sets role q)) → length two ≡ length one →
    ((role q : ℕ) → role < 256 → q < length one → is_marked two role q ≡ cond (nat_eq q last) (has none role) (is_marked one role q)) →
    fresh ≡ swap_remove_entry (nat_eq session) es → length fresh ≤ length es → AreReached two fresh
removed_reached sets one two es fresh session place last moved none reached at ends goes empty long first longer second is few =
    let turned : AreMarksOf one (λ q. cond (nat_eq q place) moved (reach_at es q)) = turned_marks sets one (reach_at es) place moved reached.marks long first in record {
      whole = ap (λ n. n % 256) (longer ∙ long) ∙ reached.whole;
      within = omega (arith, few, reached.within, long, longer);
      marks = same_marks two (λ q. cond (nat_eq q last) none (cond (nat_eq q place) moved (reach_at es q))) (reach_at fresh)
          (λ q.
          ap (λ x. reach_at x q) is ∙ reach_removed session es place at (0, record { reach = 0; rows = [] }) q
          ∙ ap₂ (λ n z. cond (nat_eq q n) z (cond (nat_eq q place) (reach_at es n) (reach_at es q))) (sym ends) (sym empty)
          ∙ ap (λ m. cond (nat_eq q last) none (cond (nat_eq q place) m (reach_at es q))) (sym goes))
          (turned_marks one two (λ q. cond (nat_eq q place) moved (reach_at es q)) last none turned longer second);
    }

-- sessions that do not reach the role are as if the change had come to them too
module _ (f : ℕ → SessionAccess → SessionAccess) (role : ℕ) (same : (k : ℕ) (v : SessionAccess) → has v.reach role ≡ false → f k v ≡ v) where
  pub changed_skip : (es : List (ℕ × SessionAccess)) (n m : ℕ) → n ≤ m → ((q : ℕ) → n ≤ q → q < m → has (reach_at (changed_first f es n) q) role ≡ false) → changed_first f es n ≡ changed_first f es m
  unfolding changed_first
  changed_skip [] n m le none = refl
  changed_skip (e ∷ es) zero zero le none = refl
  changed_skip (e ∷ es) zero (suc m) le none =
      ap₂ (λ v rest. (e.0, v) ∷ rest) (sym (same e.0 e.1 (none 0 (omega arith) (omega arith))))
      (changed_none f es ∙ changed_skip es 0 m (omega arith) (λ q low high. ap (λ x. has (reach_at x q) role) (sym (changed_none f es)) ∙ none (suc q) (omega arith) (omega (arith, high))))
  changed_skip (e ∷ es) (suc n) zero le none = absurd (omega (arith, le))
  changed_skip (e ∷ es) (suc n) (suc m) le none =
      ap (λ rest. (e.0, f e.0 e.1) ∷ rest) (changed_skip es n m (omega (arith, le)) (λ q low high. none (suc q) (omega (arith, low)) (omega (arith, high))))

  pub changed_rest : (es : List (ℕ × SessionAccess)) (n : ℕ) → ((q : ℕ) → n ≤ q → has (reach_at (changed_first f es n) q) role ≡ false) → changed_first f es n ≡ all_changed f es
  changed_rest es n none = changed_skip es n (n + length es) (omega arith) (λ q low high. none q low) ∙ changed_past f es (n + length es) (omega arith)

  -- the next session that may reach it
  pub changed_upto : (es now new : List (ℕ × SessionAccess)) (from place : ℕ) → now ≡ changed_first f es from → from ≤ place →
      ((q : ℕ) → from ≤ q → q < place → has (reach_at now q) role ≡ false) → new ≡ changed_at f now place → new ≡ changed_first f es (place + 1)
  changed_upto es now new from place is le none made =
      made ∙ ap (λ x. changed_at f x place) (is ∙ changed_skip es from place le (λ q low high. ap (λ x. has (reach_at x q) role) (sym is) ∙ none q low high)) ∙ changed_next f es place

  pub changed_last : (es now : List (ℕ × SessionAccess)) (from : ℕ) → now ≡ changed_first f es from → ((q : ℕ) → from ≤ q → has (reach_at now q) role ≡ false) → now ≡ all_changed f es
  changed_last es now from is none = is ∙ changed_rest es from (λ q low. ap (λ x. has (reach_at x q) role) (sym is) ∙ none q low)
