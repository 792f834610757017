-- Sets that are skipped: those of which too few roles are among the given ones.
use Rattle.std.proofs.Common.{◌≡◌, ℕ, suc, ◌+◌, ◌*◌, ◌^◌, ◌<◌, ◌≤◌, Bool, true, false, cond, ◌&&◌, ◌||◌, List, [], ◌∷◌, length, sym, refl, ap, ap₂, ◌∙◌, arith, Option, Some, None, eqb}
use Rattle.std.specs.Prelude.{◌==◌, not, count_ones, bit_and, position, nat_lt}
use Rattle.std.specs.List.{list_any, list_all, position_or_len}
use Rattle.std.proofs.lemmas.Bool.{cond-false, true≢false, and_parts, and_from, or_parts, not-false, eqb-true, leb-true, leb-false, lt-leb, le-ltb}
use Rattle.std.proofs.lemmas.Nat.{ones_le_self, ones_cat, pow_pos}
use Rattle.std.proofs.lemmas.Nat.Bits.{bit_at-pow_same}
use Rattle.role_hierarchy.specs.Roles.{has, without}
use Rattle.role_hierarchy.specs.RoleLaws.{has-empty, has-bit_and, has-without, count_fewer, below_power}
use Rattle.separation_core.specs.declared.sets.Limit.{Limit}
use Rattle.separation_core.specs.Groups.{Groups, is_sound, is_broken, first_broken, breaks_coming, limits_of}

-- one role alone breaks no set
unbroken : (given rest : ℕ) (limit : Limit) → is_sound limit ≡ true → ((q : ℕ) → has (bit_and limit.roles given) q ≡ true → has rest q ≡ true) → count_ones rest < 2 → is_broken given limit ≡ false
unbroken given rest limit sound within small =
    let two : 2 ≤ limit.number = leb-true _ _ (and_parts _ _ sound).0 in
    let fewer : count_ones (bit_and limit.roles given) ≤ count_ones rest = count_fewer _ _ (bit_and limit.roles given) (below_power _) within in
    lt-leb _ _ (omega (arith, two, fewer, small))

-- where no set passes
none_of : (test : Limit → Bool) (limits : List Limit) → ((limit : Limit) → is_sound limit ≡ true → test limit ≡ false) → list_all is_sound limits ≡ true → list_any test limits ≡ false
none_of test [] whole sound = refl
none_of test (limit ∷ limits) whole sound =
    let parts = and_parts _ _ sound in
    ap₂ (λ s t. s || t) (whole limit parts.0) (none_of test limits whole parts.1)

-- a first test that each set passes which passes the second one
kept_of : (kept test : Limit → Bool) (limits : List Limit) → ((limit : Limit) → is_sound limit ≡ true → kept limit ≡ false → test limit ≡ false) → list_all is_sound limits ≡ true →
    list_any (λ limit. kept limit && test limit) limits ≡ list_any test limits
kept_of kept test [] whole sound = refl
kept_of kept test (limit ∷ limits) whole sound =
    let parts = and_parts _ _ sound in
    ap₂ (λ s t. s || t) (same (kept limit) (whole limit parts.0)) (kept_of kept test limits whole parts.1)
  where
    same : (b : Bool) → (b ≡ false → test limit ≡ false) → (b && test limit) ≡ test limit
    same true e = refl
    same false e = sym (e refl)

-- fewer roles than two
pub few_given : (given : ℕ) (limits : List Limit) → list_all is_sound limits ≡ true → count_ones given < 2 → list_any (is_broken given) limits ≡ false
few_given given limits sound small =
    none_of (is_broken given) limits (λ limit s. unbroken given given limit s (λ q h. (and_parts _ _ (sym (has-bit_and limit.roles given q) ∙ h)).1) small) sound

pub none_given : (given : ℕ) → ((q : ℕ) → 0 ≤ q → has given q ≡ false) → count_ones given < 2
none_given given none =
    let fewer : count_ones given ≤ count_ones 0 = count_fewer given 0 given (below_power given) (λ q h. absurd (true≢false (sym h ∙ none q (omega arith)))) in
    omega (arith, fewer, ones_le_self 0)

-- one role by itself
module _ (role : ℕ) where
  alone_has : has (2 ^ role) role ≡ true
  unfolding has
  alone_has = ap (λ n. eqb n 1) (bit_at-pow_same role)

  alone_few : count_ones (2 ^ role) < 2
  alone_few =
      let split : count_ones (1 * 2 ^ role + 0) ≡ count_ones 1 + count_ones 0 = ones_cat role 1 0 (pow_pos role) in
      let one : 1 * 2 ^ role + 0 ≡ 2 ^ role = omega arith in
      few (count_ones (2 ^ role)) (count_ones 1) (count_ones 0) (ap count_ones (sym one) ∙ split) (ones_le_self 1) (ones_le_self 0)
    where
      few : (n a b : ℕ) → n ≡ a + b → a ≤ 1 → b ≤ 0 → n < 2
      few n a b e h k = omega (arith, e, h, k)

-- a set that has none of the given roles except one is not broken
pub rest_of_all : (given role : ℕ) (groups : Groups) → list_all is_sound (limits_of groups) ≡ true → breaks_coming given (without given role) groups ≡ list_any (is_broken given) (limits_of groups)
rest_of_all given role groups sound = kept_of (λ limit. not (bit_and limit.roles (without given role) == 0)) (is_broken given) (limits_of groups) (λ limit s unmet. whole limit s unmet) sound
  where
    same : (limit : Limit) → bit_and limit.roles (without given role) ≡ 0 → (q : ℕ) → has (bit_and limit.roles given) q ≡ true → (b : Bool) → eqb q role ≡ b → has (2 ^ role) q ≡ true
    same limit none q h true e = ap (has (2 ^ role)) (eqb-true q role e) ∙ alone_has role
    same limit none q h false e =
        let parts = and_parts _ _ (sym (has-bit_and limit.roles given q) ∙ h) in
        let there : has (without given role) q ≡ true = has-without given role q ∙ and_from _ _ (ap not e) parts.1 in
        let both : has (bit_and limit.roles (without given role)) q ≡ true = has-bit_and limit.roles (without given role) q ∙ and_from _ _ parts.0 there in
        absurd (true≢false (sym both ∙ ap (λ s. has s q) none ∙ has-empty q))

    whole : (limit : Limit) → is_sound limit ≡ true → not (bit_and limit.roles (without given role) == 0) ≡ false → is_broken given limit ≡ false
    whole limit s unmet =
        let none : bit_and limit.roles (without given role) ≡ 0 = eqb-true _ _ (not-false _ unmet) in
        unbroken given (2 ^ role) limit s (λ q h. same limit none q h (eqb q role) refl) (alone_few role)

-- where the roles without the coming ones broke no set, a set that has none of the coming ones is not broken
module _ (before given coming : ℕ) (within : (q : ℕ) → has given q ≡ true → has coming q ≡ false → has before q ≡ true) where
  unmet : (limit : Limit) → is_broken before limit ≡ false → not (bit_and limit.roles coming == 0) ≡ false → is_broken given limit ≡ false
  unmet limit whole apart_from =
      let none : bit_and limit.roles coming ≡ 0 = eqb-true _ _ (not-false _ apart_from) in
      let fewer : count_ones (bit_and limit.roles given) ≤ count_ones (bit_and limit.roles before) =
      count_fewer _ _ (bit_and limit.roles given) (below_power _) (λ q h. let parts = and_parts _ _ (sym (has-bit_and limit.roles given q) ∙ h) in
      has-bit_and limit.roles before q ∙ and_from _ _ parts.0
      (within q parts.1 (sym (ap (λ t. t && has coming q) parts.0) ∙ sym (has-bit_and limit.roles coming q) ∙ ap (λ s. has s q) none ∙ has-empty q))) in
      let below : count_ones (bit_and limit.roles before) < limit.number = leb-false _ _ whole in
      lt-leb _ _ (omega (arith, fewer, below))

  past : (met broken : Bool) → (met ≡ false → broken ≡ false) → (met && broken) ≡ false → broken ≡ false
  past true broken e h = h
  past false broken e h = e refl

  front : (b : Bool) (name : List ℕ) (rest : Option (List ℕ)) → cond b (Some name) rest ≡ None → (b ≡ false) × (rest ≡ None)
  front true name rest h = cc
  front false name rest h = (refl, h)

  pub whole_but_coming : (groups : Groups) → first_broken before groups ≡ None → breaks_coming given coming groups ≡ false → first_broken given groups ≡ None
  unfolding first_broken
  whole_but_coming [] none whole = refl
  whole_but_coming (g ∷ groups) none whole =
      let parts = front (is_broken before g.1) g.0 (first_broken before groups) none in
      let halves = or_parts _ _ whole in
      cond-false (is_broken given g.1) (Some g.0) (first_broken given groups) (past (not (bit_and g.1.roles coming == 0)) (is_broken given g.1) (unmet g.1 parts.0) halves.0)
      ∙ whole_but_coming groups parts.1 halves.1

-- where no set is broken, no place is found
past_all : (test : Limit → Bool) (limits : List Limit) → list_any test limits ≡ false → position_or_len test limits ≡ length limits
past_all test [] none = refl
past_all test (limit ∷ limits) none =
    let parts : (test limit ≡ false) × (list_any test limits ≡ false) = or_parts _ _ none in
    let rest : position_or_len test limits ≡ length limits = past_all test limits parts.1 in
    let more : 1 + position_or_len test limits ≡ suc (length limits) = omega (arith, rest) in
    ap (λ b. cond (not b) (1 + position_or_len test limits) 0) parts.0 ∙ more

pub no_place : (test : Limit → Bool) (limits : List Limit) → list_any test limits ≡ false → position test limits ≡ None
no_place test limits none =
    let past : position_or_len test limits ≡ length limits = past_all test limits none in
    cond-false (nat_lt (position_or_len test limits) (length limits)) (Some (position_or_len test limits)) None (le-ltb _ _ (omega (arith, past)))
