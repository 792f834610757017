use Rattle.pin_core.proofs.Nearing.{first_far, next_far, not_before, start_before, start_within, found_at, found_nowhere}
use Rattle.pin_core.proofs.pins.is_on.Goals.{else-away-from-via-then-away-from+else-route-from, else-away-from-via-else-away-from, else-from-away-via-then-from-away+else-route-from-2, else-from-away-via-else-from-away}
use Rattle.pin_core.proofs.pins.is_on.Goals as goal

pub loop-away-init : goal.loop-away-init
loop-away-init c = first_far c.args.route.now c.args.customer c.min-from.result

pub bounds-route-from : goal.bounds-route-from
bounds-route-from c = start_within _ _ _ (start_before _ _ _ _ c.min-from.ensures c.saturating_sub.ensures) c.loop-away-test.true

pub returns-then-route-from : goal.returns-then-route-from
returns-then-route-from c =
    found_at c.args.route.now c.args.customer _ (start_within _ _ _ (start_before _ _ _ _ c.min-from.ensures c.saturating_sub.ensures) c.loop-away-test.true) c.if-route-from.true

pub bounds-route-from-then-from-away : goal.bounds-route-from-then-from-away
bounds-route-from-then-from-away c = c.if-from-away.true

pub returns-then-route-from-2 : goal.returns-then-route-from-2
returns-then-route-from-2 c = found_at c.args.route.now c.args.customer _ c.if-from-away.true c.if-route-from-2.true

pub loop-away-preserved : goal.loop-away-preserved
loop-away-preserved c =
    next_far c.args.route.now c.args.customer c.min-from.result c.loop-away.away c.loop-away.invariant
    (λ h e. elim c.else-away-from.branch [
      | else-away-from-via-then-away-from+else-route-from w ↦ w.if-route-from.false e
      | else-away-from-via-else-away-from w ↦ not_before _ _ h w.if-away-from.false
    ])
    (λ h e. elim c.else-from-away.branch [
      | else-from-away-via-then-from-away+else-route-from-2 w ↦ w.if-route-from-2.false e
      | else-from-away-via-else-from-away w ↦ not_before _ _ w.if-from-away.false h
    ])

pub returns : goal.returns
returns c = found_nowhere c.args.route.now c.args.customer c.min-from.result c.loop-away.away (start_before _ _ _ _ c.min-from.ensures c.saturating_sub.ensures) c.loop-away-test.false c.loop-away.invariant
