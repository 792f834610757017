use Rattle.std.proofs.Common.{sym, ◌∙◌}
use Rattle.std.proofs.lemmas.Bool.{false≢true}
use Rattle.row_gains.proofs.Wins.{loses, lost_fits, never, none_on, passed, wanted_fits}
use Rattle.row_gains.proofs.gains.may_gain_wide.Goals.{then-all_gained-all_lost, else-all_gained-all_lost}
use Rattle.row_gains.proofs.gains.may_gain_wide.Goals as goal

pub loop-k-preserved : goal.loop-k-preserved
loop-k-preserved g c = λ none.
    elim c.if-all_gained-all_lost.branch [
      | then-all_gained-all_lost w ↦ absurd (false≢true (sym none ∙ w.gains-is))
      | else-all_gained-all_lost w ↦
          none_on (g.R.RowCosts.loses c.args.row.now) (g.R.RowCosts.gains c.args.row.now) c.args.lost c.args.wanted c.args.from c.loop-k.k (c.loop-k.invariant (sym w.gains-is ∙ none))
          (loses c.args.lost c.args.wanted _ _ _ _ c.lost.ensures.value c.gained.ensures.value w.if-all_gained-all_lost.false)
    ]

pub gained-requires : goal.gained-requires
gained-requires g c = c.requires.row c.loop-k.k c.loop-k.auto.k c.loop-k-test.true

pub lost-requires : goal.lost-requires
lost-requires g c = c.requires.row c.loop-k.k c.loop-k.auto.k c.loop-k-test.true

pub overflow_add-all_gained : goal.overflow_add-all_gained
overflow_add-all_gained g c = wanted_fits _ _ c.requires.wanted c.gained.ensures.small

pub overflow_add-all_lost : goal.overflow_add-all_lost
overflow_add-all_lost g c = lost_fits _ _ c.requires.lost c.lost.ensures.small

pub loop-k-init : goal.loop-k-init
loop-k-init g c = λ e k h l. absurd (never k c.args.from h l)

pub returns : goal.returns
returns g c = λ e m h l. c.loop-k.invariant e m (passed m c.loop-k.k c.args.end h c.loop-k-test.false) l
