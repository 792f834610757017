-- Each role keeps a slot of its own.
use Rattle.std.proofs.Common.{◌≡◌, ℕ, Bool, true, false, not, cond, eqb, List, Some, None, refl, sym, ap, ◌∙◌}
use Rattle.std.specs.Prelude.{bytes_eq}
use Rattle.std.specs.Map.{lookup}
use Rattle.std.proofs.lemmas.Bool.{false≢true, eq-eqb, or_left, or_right, and_from, eqb-true}
use Rattle.std.proofs.lemmas.Slice.Eq.{bytes_eq-Decides}
use Rattle.role_hierarchy.specs.Roles.{has, with_role, without}
use Rattle.role_hierarchy.specs.RoleLaws.{has-with_role, has-without}
use Rattle.policy_core.specs.State.{HasSlots}

with_here : (used slot : ℕ) → has (with_role used slot) slot ≡ true
with_here used slot = has-with_role used slot slot ∙ or_right _ _ (eq-eqb slot slot refl)

with_kept : (used slot q : ℕ) → has used q ≡ true → has (with_role used slot) q ≡ true
with_kept used slot q h = has-with_role used slot q ∙ or_left _ _ h

module _ (old new : List (List ℕ × ℕ)) (used : ℕ) (slots : HasSlots old used) (role : List ℕ) (slot : ℕ)
    (is : (q : List ℕ) → lookup (bytes_eq q) new ≡ cond (bytes_eq role q) (Some slot) (lookup (bytes_eq q) old)) (fresh : has used slot ≡ false) where
  same_name : (q : List ℕ) → bytes_eq role q ≡ true → role ≡ q
  same_name q h = (bytes_eq-Decides role q).0 h

  -- either a name's slot is the new one and the name that of the new role, or the slot is as before
  abbrev IsNew : List ℕ → ℕ → Type 0
  IsNew q s = (role ≡ q) × (slot ≡ s)

  found_in : (q : List ℕ) (s : ℕ) (t : Bool) → bytes_eq role q ≡ t → cond t (Some slot) (lookup (bytes_eq q) old) ≡ Some s → (t ≡ true → IsNew q s) × (t ≡ false → lookup (bytes_eq q) old ≡ Some s)
  found_in q s true e h = ((λ _. (same_name q e, cc)), (λ f. cc))
  found_in q s false e h = ((λ f. cc), (λ _. h))

  there_by : (q : List ℕ) (s : ℕ) (t : Bool) → bytes_eq role q ≡ t → cond t (Some slot) (lookup (bytes_eq q) old) ≡ Some s → has (with_role used slot) s ≡ true
  there_by q s true e h = (let same : slot ≡ s = cc in ap (has (with_role used slot)) (sym same) ∙ with_here used slot)
  there_by q s false e h = with_kept used slot s (slots.there q s h)

  apart_by : (a b : List ℕ) (s : ℕ) (t u : Bool) → bytes_eq role a ≡ t → bytes_eq role b ≡ u → cond t (Some slot) (lookup (bytes_eq a) old) ≡ Some s → cond u (Some slot) (lookup (bytes_eq b) old) ≡ Some s → a ≡ b
  apart_by a b s true true ea eb ha hb = sym (same_name a ea) ∙ same_name b eb
  apart_by a b s true false ea eb ha hb = (let same : slot ≡ s = cc in absurd (false≢true (sym fresh ∙ ap (has used) same ∙ slots.there b s hb)))
  apart_by a b s false true ea eb ha hb = (let same : slot ≡ s = cc in absurd (false≢true (sym fresh ∙ ap (has used) same ∙ slots.there a s ha)))
  apart_by a b s false false ea eb ha hb = slots.apart a b s ha hb

  pub slots_added : HasSlots new (with_role used slot)
  slots_added = record {
    there = λ a s h. there_by a s (bytes_eq role a) refl (sym (is a) ∙ h);
    apart = λ a b s h k. apart_by a b s (bytes_eq role a) (bytes_eq role b) refl refl (sym (is a) ∙ h) (sym (is b) ∙ k);
  }

module _ (old new : List (List ℕ × ℕ)) (used : ℕ) (slots : HasSlots old used) (role : List ℕ) (slot : ℕ) (here : lookup (bytes_eq role) old ≡ Some slot)
    (is : (q : List ℕ) → lookup (bytes_eq q) new ≡ cond (bytes_eq role q) None (lookup (bytes_eq q) old)) where
  found_old : (q : List ℕ) (s : ℕ) (t : Bool) → bytes_eq role q ≡ t → cond t None (lookup (bytes_eq q) old) ≡ Some s → (t ≡ false) × (lookup (bytes_eq q) old ≡ Some s)
  found_old q s true e h = cc
  found_old q s false e h = (refl, h)

  kept_slot : (q : List ℕ) (s : ℕ) → bytes_eq role q ≡ false → lookup (bytes_eq q) old ≡ Some s → has (without used slot) s ≡ true
  kept_slot q s other h =
      has-without used slot s
      ∙ and_from _ _ (not_same s (eqb s slot) refl h) (slots.there q s h)
    where
      not_same : (s : ℕ) (t : Bool) → eqb s slot ≡ t → lookup (bytes_eq q) old ≡ Some s → not t ≡ true
      not_same s false e h = refl
      not_same s true e h =
          let same : s ≡ slot = eqb-true s slot e in
          let names : role ≡ q = slots.apart role q slot here (h ∙ ap Some same) in
          absurd (false≢true (sym other ∙ (bytes_eq-Decides role q).1 names))

  pub slots_removed : HasSlots new (without used slot)
  slots_removed = record {
    there = λ a s h. (let f = found_old a s (bytes_eq role a) refl (sym (is a) ∙ h) in kept_slot a s f.0 f.1);
    apart = λ a b s h k. slots.apart a b s (found_old a s (bytes_eq role a) refl (sym (is a) ∙ h)).1 (found_old b s (bytes_eq role b) refl (sym (is b) ∙ k)).1;
  }
