-- The rows of the index, role by role and set by set.
use Rattle.std.proofs.Common.{◌≡◌, ℕ, zero, suc, ◌+◌, ◌*◌, ◌%◌, ◌^◌, ◌<◌, ◌≤◌, Bool, true, false, ◌&&◌, ◌||◌, List, [], ◌∷◌, ◌++◌, length, set, take, get_or, subst, sym, refl, ap, ◌∙◌, arith, inl, inr, eqb}
use Rattle.std.specs.Prelude.{◌==◌, ◌≢◌, nat_lt, bit_or, Some, slice_get, is_some}
use Rattle.std.specs.Int.{bit_at, w64}
use Rattle.std.proofs.lemmas.Bool.{cases_eq, cases_lt, eq-eqb, ne_eqb, and_from, and_left, and_right, or_left, or_right, or_cases, lt-ltb, le-ltb, false≢true, true≢false}
use Rattle.std.proofs.lemmas.List.{get_or-set_same, get_or-set_other}
use Rattle.std.proofs.lemmas.Nat.Bits.{bit_at_set_same, bit_at_set_other}
use Rattle.role_hierarchy.specs.Roles.{has}
use Rattle.std.proofs.lemmas.Option.{slice_get_past}
use Rattle.role_hierarchy.specs.RoleLaws.{has-empty, has-bit_or}
use Rattle.role_hierarchy.specs.Rows.{written}
use Rattle.separation_core.specs.declared.sets.Limit.{Limit}
use Rattle.separation_core.specs.Groups.{Groups, AreSets, limit_of}
use Rattle.separation_core.specs.Index.{set_has, has_at, IsIndex, IsKept}

-- the roles below a bound
abbrev pub upto : ℕ → ℕ → ℕ → Bool
upto roles from role = nat_lt role from && has roles role

pub upto_none : (roles role : ℕ) → upto roles 0 role ≡ false
upto_none roles role = and_left _ _ (le-ltb role 0 (omega arith))

-- the next role is n
module _ (roles from n : ℕ) (low : from ≤ n) (least : (q : ℕ) → from ≤ q → q < n → has roles q ≡ false) where
  pub upto_here : upto roles from n ≡ false
  upto_here = and_left _ _ (le-ltb n from low)

  pub upto_other : (role : ℕ) → role ≢ n → upto roles (n + 1) role ≡ upto roles from role
  upto_other role apart = elim (cases_lt role from) [
    | inl h ↦ ap (λ b. b && has roles role) (lt-ltb role (n + 1) (omega arith) ∙ sym (lt-ltb role from h))
    | inr h ↦ elim (cases_lt role n) [
      | inl k ↦ and_right _ _ (least role h k) ∙ sym (and_right _ _ (least role h k))
      | inr k ↦ and_left _ _ (le-ltb role (n + 1) (omega (arith, k, apart))) ∙ sym (and_left _ _ (le-ltb role from h))
    ]
  ]

pub upto_next : (roles n : ℕ) → has roles n ≡ true → upto roles (n + 1) n ≡ true
upto_next roles n here = and_from _ _ (lt-ltb n (n + 1) (omega arith)) here

pub upto_all : (roles from : ℕ) → ((q : ℕ) → from ≤ q → has roles q ≡ false) → (role : ℕ) → upto roles from role ≡ has roles role
upto_all roles from none role = elim (cases_lt role from) [
  | inl h ↦ ap (λ b. b && has roles role) (lt-ltb role from h)
  | inr h ↦ and_right _ _ (none role h) ∙ sym (none role h)
]

-- a word with one more digit
pub has_marked : (word place : ℕ) → place < 64 → (q : ℕ) → has (bit_or word (1 * 2 ^ place % 2 ^ 64)) q ≡ (has word q || (q == place))
unfolding has
has_marked word place small q = elim (cases_eq q place) [
  | inl e ↦ ap (λ x. eqb (bit_at (bit_or word (1 * 2 ^ place % 2 ^ 64)) x) 1) e
      ∙ ap (λ n. eqb n 1) (bit_at_set_same w64 word place small)
      ∙ sym (or_right (has word q) (eqb q place) (eq-eqb q place e))
  | inr ne ↦ ap (λ n. eqb n 1) (bit_at_set_other w64 word place small q ne) ∙ plain (has word q) (eqb q place) (ne_eqb q place ne)
]
  where
    plain : (a b : Bool) → b ≡ false → a ≡ (a || b)
    plain true b e = refl
    plain false b e = sym e

-- one more role of a set that is marked
module _ (roles from n place : ℕ) (low : from ≤ n) (least : (q : ℕ) → from ≤ q → q < n → has roles q ≡ false) (member : has roles n ≡ true) (small : place < 64) where
  abbrev Marked : List ℕ → ℕ → List ℕ → Type 0
  Marked old bound new = (role q : ℕ) → role < 256 → has (get_or new role 0) q ≡ (has (get_or old role 0) q || ((q == place) && upto roles bound role))

  pub mark_more : (old rows : List ℕ) → n < length rows → Marked old from rows → Marked old (n + 1) (set rows n (bit_or (get_or rows n 0) (1 * 2 ^ place % 2 ^ 64)))
  mark_more old rows within kept role q range = elim (cases_eq role n) [
    | inl e ↦
        let word : ℕ = bit_or (get_or rows n 0) (1 * 2 ^ place % 2 ^ 64) in
        ap (λ r. has (get_or (set rows n word) r 0) q) e
        ∙ ap (λ w. has w q) (get_or-set_same rows n word 0 within)
        ∙ has_marked (get_or rows n 0) place small q
        ∙ ap (λ b. b || (q == place)) (ap (λ r. has (get_or rows r 0) q) (sym e) ∙ kept role q range)
        ∙ joins (has (get_or old role 0) q) (q == place) (upto roles from role) (upto roles (n + 1) role)
        (ap (upto roles from) e ∙ upto_here roles from n low least) (ap (upto roles (n + 1)) e ∙ upto_next roles n member)
    | inr ne ↦
        ap (λ w. has w q) (get_or-set_other rows n role (bit_or (get_or rows n 0) (1 * 2 ^ place % 2 ^ 64)) 0 ne)
        ∙ kept role q range
        ∙ ap (λ b. has (get_or old role 0) q || ((q == place) && b)) (sym (upto_other roles from n low least role ne))
  ]
    where
      joins : (a b c d : Bool) → c ≡ false → d ≡ true → ((a || (b && c)) || b) ≡ (a || (b && d))
      joins true b c d e f = refl
      joins false true false true e f = refl
      joins false true true d e f = absurd (true≢false e)
      joins false true false false e f = absurd (false≢true f)
      joins false false c d e f = refl

-- one more role whose row is joined
module _ (roles from n : ℕ) (low : from ≤ n) (least : (q : ℕ) → from ≤ q → q < n → has roles q ≡ false) (member : has roles n ≡ true) where
  pub join_more : (rows : List ℕ) (places : ℕ) →
      ((q : ℕ) → ((has places q ≡ true) → ((role : ℕ) × (role < from) × (has roles role ≡ true) × (has (get_or rows role 0) q ≡ true)))
      × (((role : ℕ) × (role < from) × (has roles role ≡ true) × (has (get_or rows role 0) q ≡ true)) → has places q ≡ true)) →
      (q : ℕ) → ((has (bit_or places (get_or rows n 0)) q ≡ true) → ((role : ℕ) × (role < n + 1) × (has roles role ≡ true) × (has (get_or rows role 0) q ≡ true)))
      × (((role : ℕ) × (role < n + 1) × (has roles role ≡ true) × (has (get_or rows role 0) q ≡ true)) → has (bit_or places (get_or rows n 0)) q ≡ true)
  join_more rows places kept q = (forth, back)
    where
      word : ℕ
      word = get_or rows n 0

      forth : has (bit_or places word) q ≡ true → (role : ℕ) × (role < n + 1) × (has roles role ≡ true) × (has (get_or rows role 0) q ≡ true)
      forth h = elim (or_cases (has places q) (has word q) (sym (has-bit_or places word q) ∙ h)) [
        | inl e ↦ (let found = (kept q).0 e in (found.0, omega (arith, found.1, low), found.2, found.3))
        | inr e ↦ (n, omega arith, member, e)
      ]

      back : ((role : ℕ) × (role < n + 1) × (has roles role ≡ true) × (has (get_or rows role 0) q ≡ true)) → has (bit_or places word) q ≡ true
      back found = has-bit_or places word q ∙ (elim (cases_lt found.0 from) [
        | inl h ↦ or_left _ _ ((kept q).1 (found.0, h, found.2, found.3))
        | inr h ↦ elim (cases_eq found.0 n) [
          | inl e ↦ or_right (has places q) (has word q) (ap (λ r. has (get_or rows r 0) q) (sym e) ∙ found.3)
          | inr ne ↦ absurd (true≢false (sym found.2 ∙ least found.0 h (omega (arith, found.1, ne))))
        ]
      ])

pub none_more : (a b c : Bool) → c ≡ false → a ≡ (a || (b && c))
none_more true b c e = refl
none_more false true c e = sym e
none_more false false c e = refl

-- the sets before a place
abbrev pub before : Groups → ℕ → ℕ → ℕ → Bool
before groups bound role q = nat_lt q bound && has_at groups q role

pub before_none : (groups : Groups) (role q : ℕ) → before groups 0 role q ≡ false
before_none groups role q = and_left _ _ (le-ltb q 0 (omega arith))

pub before_more : (groups : Groups) (place role q : ℕ) (g : List ℕ × Limit) → slice_get groups place ≡ Some g →
    (before groups place role q || ((q == place) && has g.1.roles role)) ≡ before groups (place + 1) role q
before_more groups place role q g there = elim (cases_eq q place) [
  | inl e ↦ here (nat_lt q place) (has_at groups q role) (q == place) (has g.1.roles role) (nat_lt q (place + 1))
      (le-ltb q place (omega (arith, e))) (ap (λ k. has_at groups k role) e ∙ ap (λ o. set_has o role) there) (eq-eqb q place e) (lt-ltb q (place + 1) (omega (arith, e)))
  | inr ne ↦ apart (nat_lt q place) (nat_lt q (place + 1)) (has_at groups q role) (q == place) (has g.1.roles role) (ne_eqb q place ne) (same ne)
]
  where
    here : (a h e m b : Bool) → a ≡ false → h ≡ m → e ≡ true → b ≡ true → ((a && h) || (e && m)) ≡ (b && h)
    here false h true m true p s t u = sym s
    here true h e m b p s t u = absurd (true≢false p)
    here false h false m b p s t u = absurd (false≢true t)
    here false h true m false p s t u = absurd (false≢true u)

    apart : (a b h e m : Bool) → e ≡ false → a ≡ b → ((a && h) || (e && m)) ≡ (b && h)
    apart a b h true m p s = absurd (true≢false p)
    apart false b h false m p s = ap (λ x. x && h) s
    apart true b true false m p s = ap (λ x. x && true) s
    apart true b false false m p s = ap (λ x. x && false) s

    same : q ≢ place → nat_lt q place ≡ nat_lt q (place + 1)
    same ne = elim (cases_lt q place) [
      | inl h ↦ lt-ltb q place h ∙ sym (lt-ltb q (place + 1) (omega arith))
      | inr h ↦ le-ltb q place h ∙ sym (le-ltb q (place + 1) (omega (arith, h, ne)))
    ]

pub before_all : (groups : Groups) (bound role q : ℕ) → length groups ≤ bound → before groups bound role q ≡ has_at groups q role
before_all groups bound role q all = elim (cases_lt q bound) [
  | inl h ↦ ap (λ b. b && has_at groups q role) (lt-ltb q bound h)
  | inr h ↦ and_left _ _ (le-ltb q bound h) ∙ sym (ap (λ o. set_has o role) (slice_get_past groups q (omega (arith, all, h))))
]

-- rows that are added where there is no set
pub kept_grown : (old rows : List ℕ) → length rows ≡ 256 → ((k : ℕ) → k < 256 → k < length old → get_or rows k 0 ≡ get_or old k 0) → ((k : ℕ) → length old ≤ k → k < 256 → get_or rows k 0 ≡ 0) →
    (groups : Groups) → IsKept groups old → IsKept groups rows
kept_grown old rows whole same fresh groups kept = record {
  sets = kept.sets;
  whole = λ some. whole;
  index = λ role place h. elim (cases_lt role (length old)) [
    | inl k ↦ ap (λ w. has w place) (same role (omega (arith, h, whole)) k) ∙ kept.index role place k
    | inr k ↦ ap (λ w. has w place) (fresh role k (omega (arith, h, whole))) ∙ has-empty place
        ∙ sym (ap (λ o. set_has o role) (slice_get_past groups place (none (length groups) place (λ some. (let full = kept.whole some in omega (arith, full, k, h, whole))))))
  ];
}
  where
    none : (n q : ℕ) → (0 < n → ⊥) → n ≤ q
    none zero q empty = omega arith
    none (suc n) q empty = absurd (empty (omega arith))

-- one more set, the last, whose roles are marked
pub index_with : (groups : Groups) (old rows : List ℕ) (g : List ℕ × Limit) → length rows ≡ 256 → length old ≡ 256 → IsIndex old groups →
    ((role q : ℕ) → role < 256 → has (get_or rows role 0) q ≡ (has (get_or old role 0) q || ((q == length groups) && has g.1.roles role))) → IsIndex rows (groups ++ g ∷ [])
index_with groups old rows g whole before_it index marked role q h =
    let range : role < 256 = omega (arith, h, whole) in
    marked role q range
    ∙ ap (λ b. b || ((q == length groups) && has g.1.roles role)) (index role q (omega (arith, range, before_it)))
    ∙ at groups q
  where
    zero≢suc : (q : ℕ) → suc q ≡ 0 → ⊥
    zero≢suc q e = omega (arith, e)

    both : (q n : ℕ) → (suc q == suc n) ≡ (q == n)
    both q n = elim (cases_eq q n) [
      | inl e ↦ eq-eqb (suc q) (suc n) (ap suc e) ∙ sym (eq-eqb q n e)
      | inr ne ↦ ne_eqb (suc q) (suc n) (λ e. ne (omega (arith, e))) ∙ sym (ne_eqb q n ne)
    ]

    plain : (a b c : Bool) → b ≡ false → (a || (b && c)) ≡ a
    plain true b c e = refl
    plain false false c e = refl
    plain false true c e = absurd (true≢false e)

    at : (gs : Groups) (q : ℕ) → (has_at gs q role || ((q == length gs) && has g.1.roles role)) ≡ has_at (gs ++ g ∷ []) q role
    at [] zero = refl
    at [] (suc q) = and_left _ _ (ne_eqb (suc q) 0 (λ e. zero≢suc q e))
    at (e ∷ gs) zero = plain (has e.1.roles role) (zero == suc (length gs)) (has g.1.roles role) (ne_eqb zero (suc (length gs)) (λ e. zero≢suc (length gs) (sym e)))
    at (e ∷ gs) (suc q) = ap (λ b. has_at gs q role || (b && has g.1.roles role)) (both q (length gs)) ∙ at gs q

-- where a set is named there is one
pub some_named : (groups : Groups) (name : List ℕ) → is_some (limit_of groups name) ≡ true → 0 < length groups
some_named [] name there = absurd (false≢true there)
some_named (g ∷ groups) name there = omega arith

-- rows that were all written again are the index
pub kept_renewed : (groups : Groups) (kept_len : ℕ) (rows rest : List ℕ) → AreSets groups → length rows ≡ 256 → length rows ≡ kept_len → IsIndex rows groups → IsKept groups (take kept_len (rows ++ rest))
kept_renewed groups n rows rest sets whole e index = subst (IsKept groups) (sym (written n rows rest e)) (record { sets = sets; whole = λ some. whole; index = index })
