-- The numbers of the sessions rise.
use Rattle.std.proofs.Common.{◌≡◌, ℕ, zero, suc, ◌+◌, ◌<◌, ◌≤◌, Bool, true, false, cond, List, [], ◌∷◌, map, filter, length, get_or, Some, refl, ap, ◌∙◌, arith}
use Rattle.std.specs.Prelude.{nat_eq, is_some}
use Rattle.std.specs.Map.{lookup, remove_entry}
use Rattle.std.specs.List.Sorted.{IsStrictlyIncreasing}
use Rattle.indexmap.specs.IndexMap.{insert_entry}
use Rattle.std.proofs.lemmas.Bool.{and_parts, and_from, cond-false, false≢true, ne_eqb, lt-ltb, ltb-true, le-leb, leb-true}
use Rattle.policy_core.specs.declared.session.Session.{Session}
use Rattle.policy_core.specs.State.{rise, numbers_of}

-- from a lower number on
pub rise_low : (low high last : ℕ) (ns : List ℕ) → low ≤ high → rise high last ns ≡ true → rise low last ns ≡ true
rise_low low high last [] h r = refl
rise_low low high last (n ∷ ns) h r =
    let parts = and_parts _ _ r in
    and_from _ _ (lt-ltb low n (omega (arith, h, ltb-true high n parts.0))) parts.1

-- one entry fewer
pub rise-removed : (low last : ℕ) (key : ℕ → Bool) (es : List (ℕ × Session)) → rise low last (numbers_of es) ≡ true → rise low last (numbers_of (remove_entry key es)) ≡ true
rise-removed low last key [] r = refl
rise-removed low last key (e ∷ es) r =
    let parts = and_parts _ _ r in
    let rest = and_parts _ _ parts.1 in
    elim (key e.0) as (λ t. rise low last (numbers_of (cond t es (e ∷ remove_entry key es))) ≡ true) [
      | true ↦ rise_low low e.0 last (numbers_of es) (omega (arith, ltb-true low e.0 parts.0)) rest.1
      | false ↦ and_from _ _ parts.0 (and_from _ _ rest.0 (rise-removed e.0 last key es rest.1))
    ]

-- the entries that are kept
pub rise-filter : (low last : ℕ) (keep : (ℕ × Session) → Bool) (es : List (ℕ × Session)) → rise low last (numbers_of es) ≡ true → rise low last (numbers_of (filter keep es)) ≡ true
rise-filter low last keep [] r = refl
rise-filter low last keep (e ∷ es) r =
    let parts = and_parts _ _ r in
    let rest = and_parts _ _ parts.1 in
    elim (keep e) as (λ t. rise low last (numbers_of (cond t (e ∷ filter keep es) (filter keep es))) ≡ true) [
      | true ↦ and_from _ _ parts.0 (and_from _ _ rest.0 (rise-filter e.0 last keep es rest.1))
      | false ↦ rise_low low e.0 last (numbers_of (filter keep es)) (omega (arith, ltb-true low e.0 parts.0)) (rise-filter e.0 last keep es rest.1)
    ]

-- sessions that change keep their numbers
pub numbers-mapped : (k : Session → Session) (es : List (ℕ × Session)) → numbers_of (map (λ e. (e.0, k e.1)) es) ≡ numbers_of es
numbers-mapped k [] = refl
numbers-mapped k (e ∷ es) = ap (λ ns. e.0 ∷ ns) (numbers-mapped k es)

pub numbers-present : (number : ℕ) (s : Session) (es : List (ℕ × Session)) → is_some (lookup (nat_eq number) es) ≡ true → numbers_of (insert_entry nat_eq es number s) ≡ numbers_of es
numbers-present number s [] there = absurd (false≢true there)
numbers-present number s (e ∷ es) there =
    elim (nat_eq number e.0) as (λ t. is_some (cond t (Some e.1) (lookup (nat_eq number) es)) ≡ true → numbers_of (cond t ((e.0, s) ∷ es) (e ∷ insert_entry nat_eq es number s)) ≡ numbers_of (e ∷ es)) [
      | true ↦ λ h. refl
      | false ↦ λ h. ap (λ ns. e.0 ∷ ns) (numbers-present number s es h)
    ] there

-- a new session has the next number
pub rise-opened : (low last : ℕ) (s : Session) (es : List (ℕ × Session)) → low ≤ last → rise low last (numbers_of es) ≡ true → rise low (last + 1) (numbers_of (insert_entry nat_eq es (last + 1) s)) ≡ true
rise-opened low last s [] h r = and_from _ _ (lt-ltb low (last + 1) (omega (arith, h))) (and_from _ _ (le-leb (last + 1) (last + 1) (omega arith)) refl)
rise-opened low last s (e ∷ es) h r =
    let parts = and_parts _ _ r in
    let rest = and_parts _ _ parts.1 in
    let few : e.0 ≤ last = leb-true _ _ rest.0 in
    let other : nat_eq (last + 1) e.0 ≡ false = ne_eqb (last + 1) e.0 (λ same. absurd (omega (arith, few, same))) in
    ap (λ xs. rise low (last + 1) (numbers_of xs)) (cond-false (nat_eq (last + 1) e.0) ((e.0, s) ∷ es) (e ∷ insert_entry nat_eq es (last + 1) s) other)
    ∙ and_from _ _ parts.0 (and_from _ _ (le-leb e.0 (last + 1) (omega (arith, few))) (rise-opened e.0 last s es few rest.1))

rise_above : (low last : ℕ) (ns : List ℕ) → rise low last ns ≡ true → (k : ℕ) → k < length ns → low < get_or ns k 0
rise_above low last [] r k h = absurd (omega (arith, h))
rise_above low last (n ∷ ns) r zero h = ltb-true low n (and_parts _ _ r).0
rise_above low last (n ∷ ns) r (suc k) h =
    let parts = and_parts _ _ r in
    let more = rise_above n last ns (and_parts _ _ parts.1).1 k (omega (arith, h)) in
    omega (arith, more, ltb-true low n parts.0)

rise_next : (low last : ℕ) (ns : List ℕ) → rise low last ns ≡ true → (k : ℕ) → k + 1 < length ns → get_or ns k 0 < get_or ns (k + 1) 0
rise_next low last [] r k h = absurd (omega (arith, h))
rise_next low last (n ∷ ns) r zero h = rise_above n last ns (and_parts _ _ (and_parts _ _ r).1).1 0 (omega (arith, h))
rise_next low last (n ∷ ns) r (suc k) h =
    let more : suc k + 1 ≡ suc (k + 1) = omega arith in
    let is : get_or (n ∷ ns) (suc k + 1) 0 ≡ get_or ns (k + 1) 0 = ap (λ i. get_or (n ∷ ns) i 0) more in
    let next : get_or ns k 0 < get_or ns (k + 1) 0 = rise_next n last ns (and_parts _ _ (and_parts _ _ r).1).1 k (omega (arith, h)) in
    omega (arith, is, next)

pub rise-increasing : (low last : ℕ) (ns : List ℕ) → rise low last ns ≡ true → IsStrictlyIncreasing ns
rise-increasing low last ns r k h = rise_next low last ns r k h
