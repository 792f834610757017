use Rattle.std.proofs.Common.{◌≡◌, ◌∙◌, ◌+◌, ◌-◌, ℕ, inl, inr, sym, subst, arith, length, slice_index_or, Some, None}
use Rattle.std.proofs.lemmas.Bool.{cases_eq, cases_lt}
use Rattle.std.proofs.lemmas.List.{get_or_past}
use Rattle.pin_core.specs.Pins.{IsHeld}
use Rattle.pin_core.specs.View.{pins_of}
use Rattle.neighbourhood_tests.proofs.views.do_pins_hold.Goals as goal

pub loop-before-preserved : goal.loop-before-preserved
loop-before-preserved c = λ d low high.
    elim (cases_eq d (c.loop-before.before + 1)) [
      | inl e ↦ subst (λ (n : ℕ). IsHeld (pins_of c.args.view.now) c.args.plan.now.routes n) (sym e) (c.is_held.ensures c.if-not-is_held.false)
      | inr o ↦ c.loop-before.invariant d low (omega arith)
    ]

pub returns : goal.returns
returns c = λ _ d low.
    let sized = c.requires in
    let all = c.customers-before-end.ensures.value in
    let test = c.loop-before-test.false in
    elim (cases_lt (d - 1) (length c.args.view.now.pinned)) [
      | inl h ↦ c.loop-before.invariant d low (omega arith)
      | inr h ↦ λ v e.
          let none : slice_index_or c.args.view.now.pinned (d - 1) None ≡ None = get_or_past c.args.view.now.pinned (d - 1) None h in
          let both : None ≡ Some v = sym none ∙ e in
          absurd cc
    ]
