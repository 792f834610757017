use Rattle.std.proofs.Common.{◌≡◌, ◌∙◌, sym, ap, ℕ, Option, None}
use Rattle.pin_core.specs.Pins.{with_pin, pin_of}
use Rattle.pin_core.specs.Override.{pin_left}
use Rattle.pin_core.proofs.Released.{left_stands, left_gone, pin_again}
use Rattle.pin_core.proofs.pins.Pins.release_one.Goals as goal

pub returns-then-not-stands : goal.returns-then-not-stands
returns-then-not-stands c =
    let s = c.args.self.now in
    let routes = c.args.plan.now.routes in
    let d = c.args.customer in
    let left : pin_left routes d (pin_of s d) ≡ None =
    ap (pin_left routes d) (sym c.in-Some.ensures) ∙ left_gone routes d c.in-Some.vehicle (λ stands. let is = c.stands.ensures.1 stands in cc) in
    c.unpin.ensures ∙ ap (λ (pin : Option ℕ). with_pin d pin s) (sym left)

pub returns-else-not-stands : goal.returns-else-not-stands
returns-else-not-stands c =
    let s = c.args.self.now in
    let routes = c.args.plan.now.routes in
    let d = c.args.customer in
    pin_again s d (pin_left routes d (pin_of s d))
    (ap (pin_left routes d) (sym c.in-Some.ensures) ∙ left_stands routes d c.in-Some.vehicle (c.stands.ensures.0 c.if-not-stands.false) ∙ c.in-Some.ensures)
