-- What a change of users or sessions does to the search for the first set that is broken.
use Rattle.std.proofs.Common.{◌≡◌, ℕ, filter, zero, suc, ◌&&◌, Bool, true, false, cond, ◌||◌, List, [], ◌∷◌, Option, Some, None, map, sym, refl, ap, ap₂, ◌∙◌, ◌≤◌, arith}
use Rattle.std.specs.Prelude.{bit_and, bit_or, count_ones, nat_le}
use Rattle.std.specs.List.{list_any, list_all}
use Rattle.std.specs.Map.{lookup, remove_entry}
use Rattle.std.proofs.lemmas.Bool.{or_parts, and_parts, and_from, cond-false, leb-false, leb-true, lt-leb}
use lib.Count.{ones}
use Rattle.indexmap.specs.IndexMap.{insert_entry}
use Rattle.role_hierarchy.specs.Roles.{has}
use Rattle.role_hierarchy.specs.RoleLaws.{count_fewer, below_power, has-bit_and, has-empty, same_roles}
use Rattle.separation_core.specs.Groups.{Groups, AreSets, is_broken, is_sound, limits_of, first_broken}
use Rattle.separation_core.specs.declared.sets.Limit.{Limit}
use Rattle.role_hierarchy.specs.Order.{Order}
use Rattle.role_hierarchy.specs.Below.{closed, gathered, juniors_of}
use Rattle.separation_core.specs.Groups.{first_breaking}

or_none : (t : Bool) → (t || false) ≡ t
or_none true = refl
or_none false = refl

pub not_broken : (t : Bool) (name : List ℕ) (rest : Option (List ℕ)) → cond t (Some name) rest ≡ None → (t ≡ false) × (rest ≡ None)
not_broken true name rest h = absurd cc
not_broken false name rest h = (refl, h)

module _ {K X : Type 0} (g : X → ℕ) where
  abbrev givens : List (K × X) → List ℕ
  givens es = map (λ e. g e.1) es

  any_inserted : (eq : K → K → Bool) (test : ℕ → Bool) (k : K) (x : X) (es : List (K × X)) → list_any test (givens es) ≡ false → list_any test (givens (insert_entry eq es k x)) ≡ test (g x)
  any_inserted eq test k x [] none = or_none (test (g x))
  any_inserted eq test k x (e ∷ es) none =
      elim (eq k e.0) as (λ t. list_any test (givens (cond t ((e.0, x) ∷ es) (e ∷ insert_entry eq es k x))) ≡ test (g x)) [
        | true ↦ ap (λ t. test (g x) || t) (or_parts _ _ none).1 ∙ or_none (test (g x))
        | false ↦ ap (λ t. t || list_any test (givens (insert_entry eq es k x))) (or_parts _ _ none).0 ∙ any_inserted eq test k x es (or_parts _ _ none).1
      ]

  -- where no set was broken, the first that is broken after an entry got a value is the first that this value breaks
  pub breaking_inserted : (eq : K → K → Bool) (k : K) (x : X) (es : List (K × X)) (groups : Groups) → first_breaking (givens es) groups ≡ None →
      first_breaking (givens (insert_entry eq es k x)) groups ≡ first_broken (g x) groups
  unfolding first_breaking first_broken
  breaking_inserted eq k x es [] none = refl
  breaking_inserted eq k x es (l ∷ groups) none =
      let parts = not_broken (list_any (λ given. is_broken given l.1) (givens es)) l.0 (first_breaking (givens es) groups) none in
      ap₂ (λ t rest. cond t (Some l.0) rest) (any_inserted eq (λ given. is_broken given l.1) k x es parts.0) (breaking_inserted eq k x es groups parts.1)

  any_at : (test : ℕ → Bool) (key : K → Bool) (x : X) (es : List (K × X)) → list_any test (givens es) ≡ false → Some x ≡ lookup key es → test (g x) ≡ false
  any_at test key x [] none there = absurd cc
  any_at test key x (e ∷ es) none there =
      elim (key e.0) as (λ t. Some x ≡ cond t (Some e.1) (lookup key es) → test (g x) ≡ false) [
        | true ↦ λ h. (let same : x ≡ e.1 = cc in ap (λ y. test (g y)) same ∙ (or_parts _ _ none).0)
        | false ↦ λ h. any_at test key x es (or_parts _ _ none).1 h
      ] there

  -- where no set was broken, no entry's value breaks one
  pub broken_at : (key : K → Bool) (x : X) (es : List (K × X)) (groups : Groups) → first_breaking (givens es) groups ≡ None → Some x ≡ lookup key es → first_broken (g x) groups ≡ None
  unfolding first_breaking first_broken
  broken_at key x es [] none there = refl
  broken_at key x es (l ∷ groups) none there =
      let parts = not_broken (list_any (λ given. is_broken given l.1) (givens es)) l.0 (first_breaking (givens es) groups) none in
      ap₂ (λ t rest. cond t (Some l.0) rest) (any_at (λ given. is_broken given l.1) key x es parts.0 there) (broken_at key x es groups parts.1 there)

  any_removed : (test : ℕ → Bool) (key : K → Bool) (es : List (K × X)) → list_any test (givens es) ≡ false → list_any test (givens (remove_entry key es)) ≡ false
  any_removed test key [] none = refl
  any_removed test key (e ∷ es) none =
      elim (key e.0) as (λ t. list_any test (givens (cond t es (e ∷ remove_entry key es))) ≡ false) [
        | true ↦ (or_parts _ _ none).1
        | false ↦ ap₂ (λ s t. s || t) (or_parts _ _ none).0 (any_removed test key es (or_parts _ _ none).1)
      ]

  -- removing an entry breaks no set
  pub breaking_removed : (key : K → Bool) (es : List (K × X)) (groups : Groups) → first_breaking (givens es) groups ≡ None → first_breaking (givens (remove_entry key es)) groups ≡ None
  unfolding first_breaking
  breaking_removed key es [] none = refl
  breaking_removed key es (l ∷ groups) none =
      let parts = not_broken (list_any (λ given. is_broken given l.1) (givens es)) l.0 (first_breaking (givens es) groups) none in
      ap₂ (λ t rest. cond t (Some l.0) rest) (any_removed (λ given. is_broken given l.1) key es parts.0) (breaking_removed key es groups parts.1)

pub broken_fewer : (limit : Limit) (few many : ℕ) → ((q : ℕ) → has few q ≡ true → has many q ≡ true) → is_broken many limit ≡ false → is_broken few limit ≡ false
broken_fewer limit few many within whole =
    let less : ones (bit_and limit.roles few) ≤ ones (bit_and limit.roles many) =
    count_fewer _ _ _ (below_power (bit_and limit.roles few)) (λ q h.
    let parts = and_parts _ _ (sym (has-bit_and limit.roles few q) ∙ h) in
    has-bit_and limit.roles many q ∙ and_from _ _ parts.0 (within q parts.1)) in
    lt-leb _ _ (omega (arith, less, leb-false _ _ whole))

-- each set of the first list lies within that at its place in the second
abbrev pub AreFewer : List ℕ → List ℕ → Type 0
AreFewer [] [] = Unit {0}
AreFewer (x ∷ xs) (y ∷ ys) = ((q : ℕ) → has x q ≡ true → has y q ≡ true) × AreFewer xs ys
AreFewer _ _ = ⊥

any_fewer : (limit : Limit) (few many : List ℕ) → AreFewer few many → list_any (λ given. is_broken given limit) many ≡ false → list_any (λ given. is_broken given limit) few ≡ false
any_fewer limit [] [] within none = refl
any_fewer limit [] (y ∷ ys) within none = refl
any_fewer limit (x ∷ xs) [] within none = absurd within
any_fewer limit (x ∷ xs) (y ∷ ys) within none =
    ap₂ (λ s t. s || t) (broken_fewer limit x y within.0 (or_parts _ _ none).0) (any_fewer limit xs ys within.1 (or_parts _ _ none).1)

-- with fewer roles everywhere no set is broken that held before
pub breaking_fewer : (few many : List ℕ) (groups : Groups) → AreFewer few many → first_breaking many groups ≡ None → first_breaking few groups ≡ None
unfolding first_breaking
breaking_fewer few many [] within none = refl
breaking_fewer few many (l ∷ groups) within none =
    let parts = not_broken (list_any (λ given. is_broken given l.1) many) l.0 (first_breaking many groups) none in
    ap₂ (λ t rest. cond t (Some l.0) rest) (any_fewer l.1 few many within parts.0) (breaking_fewer few many groups within parts.1)

gathered_none : (order : Order) (n : ℕ) → gathered order 0 n ≡ 0
unfolding gathered
gathered_none order zero = refl
gathered_none order (suc n) = cond-false (has 0 n) (bit_or (gathered order 0 n) (juniors_of order n)) (gathered order 0 n) (has-empty n) ∙ gathered_none order n

-- an empty set of roles has nothing below it
pub closed_none : (order : Order) → closed order 0 ≡ 0
unfolding closed
closed_none order = gathered_none order 256

none_common : (roles : ℕ) → bit_and roles 0 ≡ 0
none_common roles = same_roles _ _ (λ q. has-bit_and roles 0 q ∙ ap (λ t. has roles q && t) (has-empty q) ∙ and_none (has roles q) ∙ sym (has-empty q))
  where
    and_none : (t : Bool) → (t && false) ≡ false
    and_none true = refl
    and_none false = refl

none_broken : (limit : Limit) → is_sound limit ≡ true → is_broken 0 limit ≡ false
unfolding count_ones
none_broken limit sound =
    let low : 2 ≤ limit.number = leb-true _ _ (and_parts _ _ sound).0 in
    ap (λ n. nat_le limit.number (count_ones n)) (none_common limit.roles) ∙ lt-leb limit.number 0 (omega arith)

-- an empty set of roles breaks no set
pub none_breaks : (groups : Groups) → AreSets groups → first_broken 0 groups ≡ None
unfolding first_broken
none_breaks groups are = each groups are.sound
  where
    each : (gs : Groups) → list_all is_sound (limits_of gs) ≡ true → first_broken 0 gs ≡ None
    each [] h = refl
    each (g ∷ gs) h = cond-false (is_broken 0 g.1) (Some g.0) (first_broken 0 gs) (none_broken g.1 (and_parts _ _ h).0) ∙ each gs (and_parts _ _ h).1

any_filtered : {E : Type 0} (test : ℕ → Bool) (g : E → ℕ) (keep : E → Bool) (es : List E) → list_any test (map g es) ≡ false → list_any test (map g (filter keep es)) ≡ false
any_filtered test g keep [] none = refl
any_filtered test g keep (e ∷ es) none =
    elim (keep e) as (λ t. list_any test (map g (cond t (e ∷ filter keep es) (filter keep es))) ≡ false) [
      | true ↦ ap₂ (λ s t. s || t) (or_parts _ _ none).0 (any_filtered test g keep es (or_parts _ _ none).1)
      | false ↦ any_filtered test g keep es (or_parts _ _ none).1
    ]

-- removing entries breaks no set
pub breaking_filtered : {E : Type 0} (g : E → ℕ) (keep : E → Bool) (es : List E) (groups : Groups) → first_breaking (map g es) groups ≡ None → first_breaking (map g (filter keep es)) groups ≡ None
unfolding first_breaking
breaking_filtered g keep es [] none = refl
breaking_filtered g keep es (l ∷ groups) none =
    let parts = not_broken (list_any (λ given. is_broken given l.1) (map g es)) l.0 (first_breaking (map g es) groups) none in
    ap₂ (λ t rest. cond t (Some l.0) rest) (any_filtered (λ given. is_broken given l.1) g keep es parts.0) (breaking_filtered g keep es groups parts.1)

-- none of these sets of roles breaks a set by itself
abbrev pub BreakNone : Groups → List ℕ → Type 0
BreakNone groups [] = Unit {0}
BreakNone groups (x ∷ xs) = (first_broken x groups ≡ None) × BreakNone groups xs

-- where each by itself breaks none, none is broken
pub breaking_each : (all : List ℕ) (groups : Groups) → BreakNone groups all → first_breaking all groups ≡ None
unfolding first_breaking first_broken
breaking_each all [] none = refl
breaking_each all (l ∷ groups) none = ap₂ (λ t rest. cond t (Some l.0) rest) (first all none) (breaking_each all groups (later all none))
  where
    front : (x : ℕ) → first_broken x (l ∷ groups) ≡ None → (is_broken x l.1 ≡ false) × (first_broken x groups ≡ None)
    front x h = not_broken (is_broken x l.1) l.0 (first_broken x groups) h

    first : (xs : List ℕ) → BreakNone (l ∷ groups) xs → list_any (λ given. is_broken given l.1) xs ≡ false
    first [] h = refl
    first (x ∷ xs) h = ap₂ (λ s t. s || t) (front x h.0).0 (first xs h.1)

    later : (xs : List ℕ) → BreakNone (l ∷ groups) xs → BreakNone groups xs
    later [] h = tt
    later (x ∷ xs) h = ((front x h.0).1, later xs h.1)
