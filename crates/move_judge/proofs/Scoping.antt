-- What holds where the dimensions are left out.
use Rattle.std.proofs.Common.{ℕ, arith, Bool, true, false, List, [], ◌∷◌}
use Rattle.dimension_core.specs.Setting.{Setting}
use Rattle.dimension_core.specs.Feasible.{FitsAll}
use Rattle.dimension_core.specs.NewRoutes.{AllFit}
use Rattle.move_core.specs.declared.moves.Move.{Move}
use Rattle.pin_core.specs.View.{ViewState}
use Rattle.route_parts.specs.View.{IsViewOf}
use Rattle.move_judge.specs.Allowed.{IsAllowed}
use Rattle.move_judge.specs.Scope.{scope}

-- without dimensions each route fits
fits_within : (b : Bool) (s : Setting) (v : ℕ) (route : List ℕ) → FitsAll s v route → FitsAll (scope b s) v route
fits_within true s v route all = all
fits_within false s v route all = λ k h. absurd (omega arith)

pub view_within : (b : Bool) (s : Setting) (view : ViewState) → IsViewOf s view → IsViewOf (scope b s) view
view_within b s view is = record {
  plan = is.plan;
  vehicles = is.vehicles;
  pinned = is.pinned;
  frozen = is.frozen;
  feasible = λ v low high. fits_within b s v _ (is.feasible v low high);
  holding = is.holding;
  fitting = is.fitting;
}

all_fit : (s : Setting) (changes : List (ℕ × List ℕ)) → AllFit s changes → AllFit (scope false s) changes
all_fit s [] all = all
all_fit s (c ∷ cs) all = (fits_within false s c.0 c.1 all.0, all_fit s cs all.1)

-- what is allowed with them is allowed
pub allowed_without : (s : Setting) (view : ViewState) (skip : List Move) (mv : Move) → IsAllowed s view skip mv → IsAllowed (scope false s) view skip mv
allowed_without s view skip mv a = record { fits = all_fit s _ a.fits; freezes = a.freezes; pins = a.pins; fresh = a.fresh }
