-- A value that is written at the place of its key.
use Rattle.std.proofs.Common.{◌≡◌, ◌<◌, ℕ, List, [], ◌∷◌, map, zero, suc, length, slice_get, Option, Some, true, refl, sym, ap, ap₂, ◌∙◌}
use Rattle.std.specs.Prelude.{bytes_eq, is_some, position, unwrap_or}
use Rattle.std.specs.Map.{lookup, values_of}
use Rattle.std.specs.Option.{option_map}
use Rattle.indexmap.specs.IndexMap.{insert_entry, set_value_at}
use Rattle.role_hierarchy.specs.Roles.{with_role}
use Rattle.policy_core.specs.State.{PolicyState, place_of, held_by, slot_of}
use Rattle.indexmap.proofs.MapLemmas.{Found-position, insert_entry-first}

values_at : (es : List (List ℕ × ℕ)) (i : ℕ) → slice_get (values_of es) i ≡ option_map (λ e. e.1) (slice_get es i)
values_at [] i = refl
values_at (e ∷ es) zero = refl
values_at (e ∷ es) (suc i) = values_at es i

module _ (es : List (List ℕ × ℕ)) (k : List ℕ) (i : ℕ) (at : position (bytes_eq k) (map (λ e. e.0) es) ≡ Some i) where
  pub place_within : i < length es
  place_within = (Found-position (bytes_eq k) es i at).within

  pub value_at : lookup (bytes_eq k) es ≡ slice_get (values_of es) i
  value_at = (Found-position (bytes_eq k) es i at).value

  pub put_at : (v : ℕ) → set_value_at es i v ≡ insert_entry bytes_eq es k v
  put_at v = sym (insert_entry-first bytes_eq k v es i (Found-position (bytes_eq k) es i at).first)

  pub entry_value : (e : List ℕ × ℕ) → Some e ≡ slice_get es i → lookup (bytes_eq k) es ≡ Some e.1
  entry_value e is = value_at ∙ values_at es i ∙ ap (option_map (λ x. x.1)) (sym is)

-- the roles of a user, once one more is written at the user's place
module _ (p now : PolicyState) (same : p ≡ now) (user : List ℕ) (place : ℕ) (stands : place_of now user ≡ Some place) where
  own_place : place_of p user ≡ Some place
  own_place = ap (λ (q : PolicyState). place_of q user) same ∙ stands

  pub there_at : (held : ℕ) → Some held ≡ slice_get (values_of p.users) place → is_some (lookup (bytes_eq user) now.users) ≡ true
  there_at held is = ap (λ (q : PolicyState). is_some (lookup (bytes_eq user) q.users)) (sym same) ∙ ap is_some (value_at p.users user place own_place ∙ sym is)

  pub put_there : (roles : ℕ) → set_value_at p.users place roles ≡ insert_entry bytes_eq p.users user roles
  put_there roles = put_at p.users user place own_place roles

  pub given_at : (role : List ℕ) (slot held more : ℕ) → slot ≡ slot_of now role → Some held ≡ slice_get (values_of p.users) place → more ≡ with_role held slot
      → set_value_at p.users place more ≡ insert_entry bytes_eq p.users user (with_role (held_by now user) (slot_of now role))
  given_at role slot held more is_slot is is_more =
      let had : held_by now user ≡ held = ap (λ (q : PolicyState). held_by q user) (sym same) ∙ ap (λ (o : Option ℕ). unwrap_or o 0) (value_at p.users user place own_place ∙ sym is) in
      put_there more ∙ ap (insert_entry bytes_eq p.users user) (is_more ∙ ap₂ with_role (sym had) is_slot)
