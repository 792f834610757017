-- Judging pins by the answers to the touches is judging them for all customers.
use Rattle.std.proofs.Common.{◌≡◌, ℕ, ◌≤◌, ◌⊎◌, inl, inr, Bool, true, List, Some, sym, ◌∙◌, subst}
use Rattle.std.specs.Prelude.{slice_get}
use Rattle.plan_core.specs.declared.touch.Touch.{Touch}
use Rattle.pin_core.specs.Pins.{PinState, IsHeld}
use Rattle.pin_core.specs.Allowed.{IsTouched}
use Rattle.pin_core.specs.Override.{DoPinsPass, IsFirstForbidden}
use Rattle.board_rules.specs.Override.{IsAllowed, DoPinsAllow, IsFirstHeldBack, AreAnswers}

some_same : (a b : Bool) → Some a ≡ Some b → a ≡ b
some_same a b h = cc

module _ (pins : PinState) (free : ℕ → Bool) (others : List (List ℕ)) (touched : List Touch) (answers : List Bool) (are : AreAnswers pins free others touched answers) where
  -- a touch whose pin was passed does not forbid
  passed : (k : ℕ) (t : Touch) → slice_get touched k ≡ Some t → IsHeld pins others t.customer ⊎ (slice_get answers k ≡ Some true) → IsAllowed pins free others t.customer
  passed k t at (inl held) = λ lacks. held
  passed k t at (inr yes') = λ lacks. elim (are.each k t at) [
    | inl held ↦ held
    | inr is ↦ let e : free t.customer ≡ true = some_same _ _ (sym is ∙ yes') in let both = sym lacks ∙ e in absurd cc
  ]

  pub allow_by_touched : DoPinsPass pins others touched answers → ((c : ℕ) → 1 ≤ c → IsHeld pins others c ⊎ IsTouched touched c) → DoPinsAllow pins free others
  allow_by_touched pass all c low = elim (all c low) [
    | inl held ↦ λ lacks. held
    | inr moved ↦ subst (IsAllowed pins free others) moved.1.2 (passed moved.0 moved.1.0 moved.1.1 (pass moved.0 moved.1.0 moved.1.1))
  ]

  pub first_by_touched : (t : Touch) → IsFirstForbidden pins others touched answers t → IsFirstHeldBack pins free others touched t
  first_by_touched t h = (
    h.k,
    record {
      found = h.found;
      fails = λ allowed. elim (are.each h.k t h.found) [
        | inl held ↦ h.loose held
        | inr is ↦ h.loose (allowed (some_same _ _ (sym is ∙ h.bound)))
      ];
      before = λ j u early at. passed j u at (h.before j early u at);
    },
  )
