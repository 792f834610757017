use Rattle.std.proofs.Common.{◌≡◌, ℕ, ◌+◌, ◌<◌, ◌∙◌, length, slice_index, sym, ap, subst}
use Rattle.std.proofs.lemmas.Grind.{get_or_default_zero}
use Rattle.callback_store.specs.Closures.{pair_values-at}
use Rattle.callback_store.specs.Tables.{matrix_table, entry}
use Rattle.callback_store.proofs.stay_matrix.StayMatrix.answer.Goals as goal

pub returns-clause-answer : goal.returns-clause-answer
returns-clause-answer c =
    let m = c.args.self.now in
    let below : c.args.i < length m.stays.items = subst (λ (n : ℕ). c.args.i < n) (sym m.together.sized) c.requires.from in
    let stay : c.index.result.now ≡ slice_index m.stays.items c.args.i = c.index.ensures ∙ get_or_default_zero m.stays.items c.args.i c.index.result.now below in
    let at = pair_values-at m.ways.size (λ i j. slice_index m.stays.items i + entry (matrix_table m.ways) i j) c.args.i c.args.j c.requires.from c.requires.to in
    ap (λ (n : ℕ). n + c.answer.result) stay ∙ ap (λ (n : ℕ). slice_index m.stays.items c.args.i + n) c.answer.ensures.answer ∙ sym at
