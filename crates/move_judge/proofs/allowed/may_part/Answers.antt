use Rattle.std.proofs.Common.{◌∙◌, ap, sym, arith, subst, List, ℕ, ◌≤◌, drop, All}
use Rattle.std.proofs.lemmas.Bool.{false≢true}
use Rattle.pin_core.specs.View.{pins_of}
use Rattle.move_judge.specs.Allowed.{AreLoose}
use Rattle.move_judge.proofs.Allowing.{known_within, back_known, view_known}
use Rattle.move_judge.proofs.allowed.may_part.Goals as goal

pub returns-then-keep-front : goal.returns-then-keep-front
returns-then-keep-front c =
    (λ never. absurd (false≢true never), λ a. let front = a.0 in let e = c.front.ensures in let test = c.if-keep-front.true in absurd (omega arith))

pub are_loose-requires-clause-known : goal.are_loose-requires-clause-known
are_loose-requires-clause-known c =
    let law = c.requires.laws in
    let s = c.requires.view.0 in
    known_within law _ _ _ (sym c.requires.view.1.pinned)
    (back_known law s.customers c.customers.result.now c.back_of.result.now c.args.keep
    (subst (λ (xs : List ℕ). All (λ x. (1 ≤ x) × (x ≤ s.customers)) xs) (sym c.customers.ensures) (view_known law s c.args.view.now c.args.v c.requires.view.1 c.requires.v.0 c.requires.v.1)) c.back_of.ensures)

pub returns : goal.returns
returns c =
    let same = c.back_of.ensures ∙ ap (λ (xs : List ℕ). drop c.args.keep xs) c.customers.ensures in (
      λ is. (let e = c.front.ensures in let test = c.if-keep-front.false in omega arith, subst (λ (xs : List ℕ). AreLoose (pins_of c.args.view.now) xs) same (c.are_loose.ensures.0 is)),
      λ a. c.are_loose.ensures.1 (subst (λ (xs : List ℕ). AreLoose (pins_of c.args.view.now) xs) (sym same) a.1),
    )
