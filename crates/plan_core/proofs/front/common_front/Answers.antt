use Rattle.plan_core.proofs.Fronts.{front_only, front_past, front_differs, front_whole, front_next}
use Rattle.plan_core.proofs.front.common_front.Goals as goal

pub returns-then-place-other-clause-value : goal.returns-then-place-other-clause-value
returns-then-place-other-clause-value c =
    front_only _ _ _ (front_past _ _ _ c.loop-place-test.true c.if-place-other.true c.loop-place.invariant.within c.loop-place.invariant.same)

pub returns-then-place-other-clause-front : goal.returns-then-place-other-clause-front
returns-then-place-other-clause-front c =
    front_past _ _ _ c.loop-place-test.true c.if-place-other.true c.loop-place.invariant.within c.loop-place.invariant.same

pub returns-then-other-place-clause-value : goal.returns-then-other-place-clause-value
returns-then-other-place-clause-value c =
    front_only _ _ _ (front_differs _ _ _ c.loop-place-test.true c.loop-place.invariant.within c.loop-place.invariant.same c.if-other-place.true)

pub returns-then-other-place-clause-front : goal.returns-then-other-place-clause-front
returns-then-other-place-clause-front c =
    front_differs _ _ _ c.loop-place-test.true c.loop-place.invariant.within c.loop-place.invariant.same c.if-other-place.true

pub loop-place-preserved : goal.loop-place-preserved
loop-place-preserved c =
    let more = front_next _ _ _ c.loop-place-test.true c.if-place-other.false c.loop-place.invariant.same c.if-other-place.false in
    record { same = more.0; within = more.1 }

pub returns-clause-value : goal.returns-clause-value
returns-clause-value c =
    front_only _ _ _ (front_whole _ _ _ c.loop-place-test.false c.loop-place.auto.place-end c.loop-place.invariant.within c.loop-place.invariant.same)

pub returns-clause-front : goal.returns-clause-front
returns-clause-front c =
    front_whole _ _ _ c.loop-place-test.false c.loop-place.auto.place-end c.loop-place.invariant.within c.loop-place.invariant.same
