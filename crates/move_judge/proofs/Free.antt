-- What is allowed with the dimensions left out, and with them.
use Rattle.std.proofs.Common.{◌≡◌, ℕ, ◌<◌, ◌⊎◌, ◌↔◌, inl, inr, refl, arith, List, [], Bool, true, false, IsTrue, Contains}
use Rattle.std.proofs.lemmas.Bool.{cases_order}
use Rattle.dimension_core.specs.Setting.{Setting}
use Rattle.dimension_core.specs.Feasible.{FitsAll}
use Rattle.dimension_core.specs.NewRoutes.{AllFit}
use Rattle.pin_core.specs.Pins.{PinState, front_of}
use Rattle.pin_core.specs.View.{ViewState, pins_of}
use Rattle.move_core.specs.declared.moves.Move.{Move}
use Rattle.move_core.specs.declared.moves.Move.TheVariants.{Shift}
use Rattle.move_core.specs.Moves.{is_possible, changes_by}
use Rattle.route_parts.specs.View.{IsViewOf}
use Rattle.move_judge.specs.Allowed.{IsAllowed, AreLoose}
use Rattle.move_judge.specs.Between.{IsBetween, IsInside}
use Rattle.move_judge.specs.Given.{Laws}
use Rattle.move_judge.specs.Scope.{scope}
use Rattle.move_judge.proofs.Between.{between_allowed}
use Rattle.move_judge.proofs.Inside.{inside_allowed, shift_forwards, shift_backwards}
use Rattle.move_judge.proofs.Scoping.{view_within}

none_skipped : (mv : Move) → Contains [] mv → ⊥
none_skipped mv (k, h, e) = absurd (omega arith)

pub none_loose : (s : PinState) → AreLoose s []
none_loose s c (k, h, e) = absurd (omega arith)

fits_unscoped : (s : Setting) (v : ℕ) (route : List ℕ) → FitsAll (scope false s) v route
fits_unscoped s v route = λ k h. absurd (omega arith)

module _ (law : Laws) where
  -- of a move between two vehicles the fronts and who goes over, of one inside a vehicle its front
  pub between_free : (s : Setting) (view : ViewState) (mv : Move) (v w x y : ℕ) (over back r q : List ℕ) → IsViewOf s view
      → is_possible s.customers view.routes mv ≡ true → IsBetween view.routes mv v w x y over back r q
      → IsAllowed (scope false s) view [] mv
      ↔ (front_of (pins_of view) v < x) × (front_of (pins_of view) w < y) × AreLoose (pins_of view) over × AreLoose (pins_of view) back
  between_free s view mv v w x y over back r q sound can b =
      let all = between_allowed law (scope false s) view [] mv v w x y over back r q (view_within false s view sound) can b in (
        λ a. let h = all.0 a in (h.front, h.other, h.loose, h.loose_back),
        λ h. all.1 (record { front = h.0; other = h.1; loose = h.2; loose_back = h.3; fresh = none_skipped mv; fits = fits_unscoped s v r; onto = fits_unscoped s w q }),
      )

  pub inside_free : (s : Setting) (view : ViewState) (mv : Move) (v x : ℕ) (r : List ℕ) → IsViewOf s view
      → is_possible s.customers view.routes mv ≡ true → IsInside view.routes mv v x r → IsAllowed (scope false s) view [] mv ↔ (front_of (pins_of view) v < x)
  inside_free s view mv v x r sound can b =
      let all = inside_allowed law (scope false s) view [] mv v x r (view_within false s view sound) can b in (
        λ a. (all.0 a).front,
        λ h. all.1 (record { front = h; fresh = none_skipped mv; fits = fits_unscoped s v r }),
      )

  -- a shift inside a vehicle begins and ends behind its front
  pub shift_free : (s : Setting) (view : ViewState) (v p m at : ℕ) → IsViewOf s view → is_possible s.customers view.routes (Shift v p m v at) ≡ true
      → IsAllowed (scope false s) view [] (Shift v p m v at) ↔ (front_of (pins_of view) v < p) × (front_of (pins_of view) v < at)
  shift_free s view v p m at sound can = split (cases_order at p)
    where
      split : (at ≡ p) ⊎ ((at < p) ⊎ (p < at)) → IsAllowed (scope false s) view [] (Shift v p m v at) ↔ (front_of (pins_of view) v < p) × (front_of (pins_of view) v < at)
      split (inl e) = absurd ((((law.possible.shift s.customers view.routes v p m v at).0 can).onto.inside refl).1 e)
      split (inr (inl h)) =
          let free = inside_free s view (Shift v p m v at) v at _ sound can (shift_forwards law s.customers view.routes v p m at can h) in
          (λ a. let front = free.0 a in (omega arith, front), λ both. free.1 both.1)
      split (inr (inr h)) =
          let free = inside_free s view (Shift v p m v at) v p _ sound can (shift_backwards law s.customers view.routes v p m at can h) in
          (λ a. let front = free.0 a in (front, omega arith), λ both. free.1 both.0)

-- where a move is not skipped, it is allowed as where none is
pub unskipped : (s : Setting) (view : ViewState) (skip : List Move) (mv : Move) (p : Bool) → ¬ Contains skip mv → IsTrue p ↔ IsAllowed s view [] mv
    → IsTrue p ↔ IsAllowed s view skip mv
unskipped s view skip mv p fresh is = (
  λ t. let a = is.0 t in record { fits = a.fits; freezes = a.freezes; pins = a.pins; fresh = fresh },
  λ a. is.1 (record { fits = a.fits; freezes = a.freezes; pins = a.pins; fresh = none_skipped mv }),
)

-- with the dimensions its new routes have to be in bounds besides
pub allowed_in_bounds : (s : Setting) (view : ViewState) (skip : List Move) (mv : Move) → IsAllowed (scope false s) view skip mv
    → AllFit s (changes_by view.routes mv) → IsAllowed s view skip mv
allowed_in_bounds s view skip mv a fits = record { fits = fits; freezes = a.freezes; pins = a.pins; fresh = a.fresh }
