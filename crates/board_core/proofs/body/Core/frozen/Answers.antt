use Rattle.std.proofs.Common.{arith, ap, ◌∙◌, length}
use Rattle.pin_core.specs.Pins.{PinState}
use Rattle.board_core.specs.Kept.{CoreState, history_of}
use Rattle.board_core.proofs.body.Core.frozen.Goals as goal

pub frozen-requires-clause-low : goal.frozen-requires-clause-low
frozen-requires-clause-low c = c.requires.2

pub frozen-requires-clause-high : goal.frozen-requires-clause-high
frozen-requires-clause-high c =
    let kept = c.requires.1 in
    let good = c.legal_histories_leave_good_states.ensures.good (history_of c.requires.0 c.args.self.now) kept.legal in
    let fronts = ap (λ (p : PinState). length p.fronts) kept.held.pins in
    let last = c.requires.3 in
    let read = ap (λ (p : PinState). length p.fronts) c.pins.ensures ∙ ap (λ (x : CoreState). length x.held.pins.fronts) c.self.view_is in
    omega (arith, read, fronts, good.frozen, last)
