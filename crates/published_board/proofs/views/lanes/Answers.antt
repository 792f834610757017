use Rattle.std.proofs.Common.{◌≡◌, ◌≤◌, ℕ, ◌+◌, min, [], ◌∷◌, ◌++◌, ap, sym, ◌∙◌, arith}
use Rattle.std.proofs.lemmas.List.FromFn.{map-range_with_len_more}
use Rattle.published_board.specs.declared.shown.Mark.{Mark}
use Rattle.published_board.specs.Lanes.{lanes_of}
use Rattle.published_board.proofs.views.lanes.Goals as goal

all_of : (i end n most : ℕ) → end ≤ i → i ≤ end → end ≡ min n most → n ≤ most → i ≡ n
all_of i end n most over within is few = omega arith

pub loop-index-preserved : goal.loop-index-preserved
loop-index-preserved c =
    let mark : ℕ → Mark = λ v. record { vehicle = v; since = c.args.base.now; entry = c.args.entry } in
    c.in_ok-push.ensures.items ∙ ((λ i. c.loop-index.invariant i ++ c.at.ensures i ∷ []) ∙ sym (map-range_with_len_more mark 1 c.loop-index.index (c.loop-index.index + 1) (omega arith)))

pub returns : goal.returns
returns c = c.loop-index.invariant ∙ ap (lanes_of c.args.base.now c.args.entry) (all_of c.loop-index.index c.min-index-end.result _ _ c.loop-index-test.false c.loop-index.auto.index-end c.min-index-end.ensures c.requires.few)
