use Rattle.std.proofs.Common.{◌≡◌, ◌↔◌, refl, List, Bool, true, false, IsTrue, sym, ◌∙◌}
use Rattle.std.proofs.lemmas.Bool.{false≢true}
use Rattle.dimension_core.specs.Setting.{Setting}
use Rattle.dimension_core.specs.NewRoutes.{AllFit}
use Rattle.pin_core.specs.View.{ViewState}
use Rattle.move_core.specs.declared.moves.Move.{Move}
use Rattle.move_core.specs.Moves.{changes_by}
use Rattle.move_judge.specs.Allowed.{IsAllowed}
use Rattle.move_judge.specs.Scope.{scope}
use Rattle.best_moves.specs.Laws.{Laws}
use Rattle.best_moves.specs.Searched.{searched}
use Rattle.best_moves.proofs.best.is_allowed.Goals as goal

module _ (law : Laws) (s : Setting) (view : ViewState) (skip : List Move) (mv : Move) where
  not_free : (b : Bool) → (IsAllowed (scope false s) view skip mv → ⊥) → IsTrue false ↔ IsAllowed (scope b s) view skip mv
  not_free true out = (λ never. absurd (false≢true never), λ a. absurd (out (law.bounds.allowed s view skip mv a)))
  not_free false out = (λ never. absurd (false≢true never), λ a. absurd (out a))

  free_unbounded : (b : Bool) → b ≡ false → IsAllowed (scope false s) view skip mv → IsTrue true ↔ IsAllowed (scope b s) view skip mv
  free_unbounded true e a = absurd (false≢true (sym e))
  free_unbounded false e a = (λ t. a, λ all. refl)

  free_bounded : (b p : Bool) → b ≡ true → IsAllowed (scope false s) view skip mv → IsTrue p ↔ AllFit s (changes_by view.routes mv)
      → IsTrue p ↔ IsAllowed (scope b s) view skip mv
  free_bounded true p e a is = (λ t. law.bounds.fitting s view skip mv a (is.0 t), λ all. is.1 all.fits)
  free_bounded false p e a is = absurd (false≢true e)

pub returns-then-not-is_free : goal.returns-then-not-is_free
returns-then-not-is_free g c =
    let q = searched c.args.search.now in
    not_free c.requires.search.laws q.setting q.view q.skip c.args.mv q.bounded (λ a. false≢true (sym c.if-not-is_free.true ∙ c.is_free.ensures.1 a))

pub returns-then-not-search : goal.returns-then-not-search
returns-then-not-search g c =
    let q = searched c.args.search.now in
    free_unbounded c.requires.search.laws q.setting q.view q.skip c.args.mv q.bounded c.if-not-search.true
    (c.is_free.ensures.0 c.if-not-is_free.false)

pub returns : goal.returns
returns g c =
    let q = searched c.args.search.now in
    free_bounded c.requires.search.laws q.setting q.view q.skip c.args.mv q.bounded _ c.if-not-search.false
    (c.is_free.ensures.0 c.if-not-is_free.false) c.fits_after.ensures
