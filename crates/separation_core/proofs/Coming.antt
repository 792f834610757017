-- The sets that have one of the coming roles are at the places that the index gives.
use Rattle.std.proofs.Common.{◌≡◌, ℕ, zero, suc, ◌<◌, Bool, true, false, ◌&&◌, ◌||◌, List, [], ◌∷◌, length, sym, refl, ap, ap₂, ◌∙◌, Some}
use Rattle.std.specs.Prelude.{◌==◌, ◌↔◌, not, bit_and, slice_get, slice_index}
use Rattle.std.specs.List.{list_any}
use Rattle.std.proofs.lemmas.Bool.{and_parts, and_from, and_left, and_right, or_left, or_right, true≢false, eq-eqb, ne_eqb}
use Rattle.role_hierarchy.specs.Roles.{has}
use Rattle.role_hierarchy.specs.RoleLaws.{has-empty, has-bit_and, same_roles}
use Rattle.separation_core.specs.declared.sets.Limit.{Limit}
use Rattle.separation_core.specs.Groups.{Groups, is_broken, breaks_coming, limits_of}
use Rattle.separation_core.specs.Index.{set_has, IsIndex, IsPlaces, BreaksAt}

-- one set decides the answer
any_at : (test : Limit → Bool) (groups : Groups) (q : ℕ) (g : List ℕ × Limit) → slice_get groups q ≡ Some g → test g.1 ≡ true → list_any test (limits_of groups) ≡ true
any_at test [] q g there pass = absurd (cc)
any_at test (e ∷ groups) zero g there pass = let same : e ≡ g = cc in or_left _ _ (ap (λ x. test x.1) same ∙ pass)
any_at test (e ∷ groups) (suc q) g there pass = or_right (test e.1) _ (any_at test groups q g there pass)

none_at : (test : Limit → Bool) (groups : Groups) → ((q : ℕ) (g : List ℕ × Limit) → slice_get groups q ≡ Some g → test g.1 ≡ false) → list_any test (limits_of groups) ≡ false
none_at test [] none = refl
none_at test (e ∷ groups) none = ap₂ (λ s t. s || t) (none zero e refl) (none_at test groups (λ q g there. none (suc q) g there))

module _ (groups : Groups) (rows : List ℕ) (coming places : ℕ) (within : (q : ℕ) → has coming q ≡ true → q < length rows) (index : IsIndex rows groups) (found : IsPlaces places rows coming) where
  abbrev met : Limit → Bool
  met limit = not (bit_and limit.roles coming == 0)

  -- a set is at one of the places exactly where it has one of the coming roles
  met_at : (q : ℕ) (g : List ℕ × Limit) → slice_get groups q ≡ Some g → has places q ≡ met g.1
  met_at q g there = by (has places q) refl
    where
      row : (role : ℕ) → has coming role ≡ true → has (slice_index rows role) q ≡ has g.1.roles role
      row role h = index role q (within role h) ∙ ap (λ o. set_has o role) there

      gone : has places q ≡ false → (role : ℕ) → has (bit_and g.1.roles coming) role ≡ false
      gone none role = no (has (bit_and g.1.roles coming) role) refl
        where
          no : (b : Bool) → has (bit_and g.1.roles coming) role ≡ b → b ≡ false
          no false e = refl
          no true e =
              let parts = and_parts _ _ (sym (has-bit_and g.1.roles coming role) ∙ e) in
              absurd (true≢false (sym ((found q).1 (role, parts.1, row role parts.1 ∙ parts.0)) ∙ none))

      by : (b : Bool) → has places q ≡ b → b ≡ met g.1
      by true e =
          let one = (found q).0 e in
          let both : has (bit_and g.1.roles coming) one.0 ≡ true = has-bit_and g.1.roles coming one.0 ∙ and_from _ _ (sym (row one.0 one.1) ∙ one.2) one.1 in
          sym (ap not (ne_eqb _ _ (λ none. true≢false (sym both ∙ ap (λ s. has s one.0) none ∙ has-empty one.0))))
      by false e =
          let none : bit_and g.1.roles coming ≡ 0 = same_roles (bit_and g.1.roles coming) 0 (λ role. gone e role ∙ sym (has-empty role)) in
          sym (ap not (eq-eqb _ _ none))

  pub breaks_at_coming : (given : ℕ) (b : Bool) → ((b ≡ true) ↔ BreaksAt given places groups) → b ≡ breaks_coming given coming groups
  breaks_at_coming given b says = by b refl
    where
      by : (d : Bool) → b ≡ d → d ≡ breaks_coming given coming groups
      by true e =
          let one = says.0 e in
          sym (any_at (λ limit. met limit && is_broken given limit) groups one.0 one.1 one.3 (and_from _ _ (sym (met_at one.0 one.1 one.3) ∙ one.2) one.4))
      by false e = sym (none_at (λ limit. met limit && is_broken given limit) groups (λ q g there. whole q g there (has places q) refl (is_broken given g.1) refl))
        where
          whole : (q : ℕ) (g : List ℕ × Limit) → slice_get groups q ≡ Some g → (m : Bool) → has places q ≡ m → (k : Bool) → is_broken given g.1 ≡ k → (met g.1 && is_broken given g.1) ≡ false
          whole q g there false h k f = and_left _ _ (sym (met_at q g there) ∙ h)
          whole q g there true h false f = and_right (met g.1) _ f
          whole q g there true h true f = absurd (true≢false (sym (says.1 (q, g, h, there, f)) ∙ e))
