use Rattle.std.proofs.Common.{◌∙◌}
use Rattle.published_board.proofs.shown.Cells.copy.Goals as goal

pub returns : goal.returns
returns c =
    let lanes = c.in_ok-again.ensures ∙ c.as_slice.ensures.value in
    let pins = c.in_ok-from_slice.ensures.items ∙ c.as_slice-2.ensures.value in
    let frozen = c.in_ok-from_slice-2.ensures.items ∙ c.as_slice-3.ensures.value in
    let old = c.args.self.now in
    (λ i. record { lanes = lanes i; pins = pins i; frozen = frozen i; version = old.version; entries = old.entries; moved = old.moved; turned = old.turned })
