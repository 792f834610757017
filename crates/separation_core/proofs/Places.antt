-- The place of the first broken set.
use Rattle.std.proofs.Common.{◌≡◌, ℕ, suc, ◌+◌, ◌≤◌, Bool, true, false, cond, List, [], ◌∷◌, length, sym, refl, ap, ◌∙◌, arith, Option, Some, None}
use Rattle.std.specs.Prelude.{not, is_some, slice_get, position, nat_lt}
use Rattle.std.specs.List.{position_or_len}
use Rattle.std.specs.Option.{option_map}
use Rattle.std.proofs.lemmas.Bool.{true≢false, ltb-false}
use Rattle.std.proofs.lemmas.List.{length-map}
use Rattle.std.proofs.lemmas.Option.{slice_get_past}
use Rattle.separation_core.specs.declared.sets.Limit.{Limit}
use Rattle.separation_core.specs.Groups.{Groups, HoldsFor, is_broken, first_broken, limits_of}
use Rattle.separation_core.specs.GroupLaws.{first_broken-holds, holds-first_broken}

-- the place of the first broken set, or the number of the sets
abbrev place_in : ℕ → Groups → ℕ
place_in given groups = position_or_len (is_broken given) (limits_of groups)

-- the first broken set is at that place
at_place : (given : ℕ) (groups : Groups) → first_broken given groups ≡ option_map (λ g. g.0) (slice_get groups (place_in given groups))
unfolding first_broken
at_place given [] = refl
at_place given (g ∷ groups) =
    elim (is_broken given g.1) as (λ b. cond b (Some g.0) (first_broken given groups) ≡ option_map (λ e. e.0) (slice_get (g ∷ groups) (cond (not b) (1 + place_in given groups) 0))) [
      | true ↦ refl
      | false ↦ at_place given groups ∙ ap (λ (m : ℕ). option_map (λ e. e.0) (slice_get (g ∷ groups) m)) up
    ]
  where
    up : suc (place_in given groups) ≡ 1 + place_in given groups
    up = omega arith

pub name_of_place : (given : ℕ) (groups : Groups) (i : ℕ) → Some i ≡ position (is_broken given) (limits_of groups) → option_map (λ g. g.0) (slice_get groups i) ≡ first_broken given groups
name_of_place given groups i = split (nat_lt (place_in given groups) (length (limits_of groups)))
  where
    split : (b : Bool) → Some i ≡ cond b (Some (place_in given groups)) None → option_map (λ g. g.0) (slice_get groups i) ≡ first_broken given groups
    split true e =
        let here : i ≡ place_in given groups = cc in
        ap (λ (m : ℕ). option_map (λ g. g.0) (slice_get groups m)) here ∙ sym (at_place given groups)
    split false e = absurd cc

pub none_of_place : (given : ℕ) (groups : Groups) → None ≡ position (is_broken given) (limits_of groups) → None ≡ first_broken given groups
none_of_place given groups = split (nat_lt (place_in given groups) (length (limits_of groups))) refl
  where
    split : (b : Bool) → nat_lt (place_in given groups) (length (limits_of groups)) ≡ b → None ≡ cond b (Some (place_in given groups)) None → None ≡ first_broken given groups
    split true e h = absurd cc
    split false e h =
        let past : length groups ≤ place_in given groups = omega (arith, ltb-false _ _ e, length-map groups (λ (g : List ℕ × Limit). g.1)) in
        sym (at_place given groups ∙ ap (option_map (λ g. g.0)) (slice_get_past groups (place_in given groups) past))

pub none_holds : (given : ℕ) (groups : Groups) (found : Option (List ℕ)) → found ≡ first_broken given groups
    → (is_some found ≡ false → HoldsFor given groups) × (HoldsFor given groups → is_some found ≡ false)
none_holds given groups None e = (λ _. first_broken-holds given groups (sym e), λ _. refl)
none_holds given groups (Some name) e = (λ h. absurd (true≢false h), λ holds. ap is_some (e ∙ holds-first_broken given groups holds))
