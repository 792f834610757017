use Rattle.std.proofs.Common.{◌≡◌, ◌+◌, sym, subst, arith, length, get_or}
use Rattle.std.proofs.lemmas.List.{get_or_default}
use Rattle.plan_core.specs.declared.touch.Touch.{Touch}
use Rattle.pin_core.specs.Pins.{PinState}
use Rattle.pin_core.proofs.Released.{AreLeft, left_begins, left_one, left_ends}
use Rattle.pin_core.proofs.pins.Pins.release.Goals as goal

pub loop-touch-init : goal.loop-touch-init
loop-touch-init c = left_begins c.args.self.now c.args.plan.now.routes c.args.touched.now

pub loop-touch-preserved : goal.loop-touch-preserved
loop-touch-preserved c =
    let s = c.args.self.now in
    let t = c.loop-touch.self in
    let routes = c.args.plan.now.routes in
    let i = c.loop-touch.touch-index in
    let long : length t.pins ≡ length s.pins = c.loop-touch.invariant.counted in
    let known = c.requires.known i no_touch c.loop-touch-test.true in
    let left = left_one s t routes c.args.touched.now i (get_or c.args.touched.now i no_touch) c.loop-touch-test.true (get_or_default c.args.touched.now i no_touch _ c.loop-touch-test.true)
    known.0 (omega arith) c.loop-touch.invariant in
    subst (λ (w : PinState). AreLeft s w routes c.args.touched.now (i + 1)) (sym c.release_one.ensures) left
  where
    no_touch : Touch
    no_touch = record { vehicle = 0; place = 0; customer = 0 }

pub returns : goal.returns
returns c = left_ends c.args.self.now c.loop-touch.self c.args.plan.now.routes c.args.touched.now c.loop-touch.touch-index c.loop-touch-test.false c.requires.touched c.loop-touch.invariant
