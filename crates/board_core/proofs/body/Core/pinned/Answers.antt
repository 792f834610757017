use Rattle.std.proofs.Common.{arith, ap, ◌∙◌, length}
use Rattle.pin_core.specs.Pins.{PinState}
use Rattle.board_core.specs.Kept.{CoreState, history_of}
use Rattle.board_core.proofs.body.Core.pinned.Goals as goal

pub pinned-requires-clause-low : goal.pinned-requires-clause-low
pinned-requires-clause-low c = c.requires.2

pub pinned-requires-clause-high : goal.pinned-requires-clause-high
pinned-requires-clause-high c =
    let kept = c.requires.1 in
    let good = c.legal_histories_leave_good_states.ensures.good (history_of c.requires.0 c.args.self.now) kept.legal in
    let pins = ap (λ (p : PinState). length p.pins) kept.held.pins in
    let last = c.requires.3 in
    let read = ap (λ (p : PinState). length p.pins) c.pins.ensures ∙ ap (λ (x : CoreState). length x.held.pins.pins) c.self.view_is in
    omega (arith, read, pins, good.pinned, last)
