use Rattle.std.proofs.Common.{[], ◌∷◌, inl, refl, sym, le_of_eq}
use Rattle.callback_store.specs.Meter.{asks_after, asks_both, asks_then}
use Rattle.dimension_core.proofs.Misses.{miss_outward, miss_return}
use Rattle.dimension_core.proofs.Reach.{bounds_found, span_none, span_push, last_of-index, asks_some, on_true, some_node, no_node, before_end, asks_fewer}
use Rattle.dimension_core.proofs.dimension.Dimension.in_bounds.Goals as goal

pub returns-in-None-clause-bounds : goal.returns-in-None-clause-bounds
returns-in-None-clause-bounds g c =
    let some = some_node c.args.route.now c.if-is_empty.ensures in
    bounds_found _ _ _ _ _ some (span_none _ _ _ _ (0 ∷ []) c.in-None.ensures.span)

pub returns-in-Some-clause-bounds : goal.returns-in-Some-clause-bounds
returns-in-Some-clause-bounds g c =
    let some = some_node c.args.route.now c.if-is_empty.ensures in
    let last = last_of-index c.args.route.now _ some refl in
    let b = bounds_found _ _ _ c.args.route.now _ some (span_push _ _ _ c.args.route.now 0 _ _ c.in-Some.ensures.span
    (rw (← last) c.extend.ensures.span)) in
    rw c.is_some.ensures b

pub returns-in-Some-clause-asks : goal.returns-in-Some-clause-asks
returns-in-Some-clause-asks g c =
    let asks = asks_some c.args.route.now (some_node c.args.route.now c.if-is_empty.ensures) in
    asks_after _ _ _ _ _ _ c.reach.ensures.asks c.extend.ensures.one (le_of_eq (sym asks))

pub returns-in-Some-clause-whole : goal.returns-in-Some-clause-whole
returns-in-Some-clause-whole g c =
    let asks = asks_some c.args.route.now (some_node c.args.route.now c.if-is_empty.ensures) in
    on_true _ _ (λ found. asks_both _ _ _ _ _ _ _ _ _ c.in-Some.ensures.whole c.extend.ensures.one (le_of_eq asks) (le_of_eq (sym asks)))

pub returns-in-None-clause-asks : goal.returns-in-None-clause-asks
returns-in-None-clause-asks g c =
    let asks = asks_some c.args.route.now (some_node c.args.route.now c.if-is_empty.ensures) in
    asks_fewer _ _ _ _ c.reach.ensures.asks asks

pub returns-then-is_empty-clause-bounds : goal.returns-then-is_empty-clause-bounds
returns-then-is_empty-clause-bounds g c =
    (λ p. ∣ inl (no_node c.args.route.now c.if-is_empty.ensures) ∣₁, λ b. refl)

pub returns-in-None-clause-missed : goal.returns-in-None-clause-missed
returns-in-None-clause-missed g c = miss_outward _ _ _ c.args.route.now _ _ c.in-None.ensures.missed

pub returns-in-Some-clause-missed : goal.returns-in-Some-clause-missed
returns-in-Some-clause-missed g c =
    let some = some_node c.args.route.now c.if-is_empty.ensures in
    let last = last_of-index c.args.route.now _ some refl in
    let back = span_push _ _ _ c.args.route.now 0 _ _ c.in-Some.ensures.span (rw (← last) c.extend.ensures.span) in
    rw c.is_some.ensures
    (miss_return _ _ _ _ _ _ _ _ c.in-Some.ensures.span back (asks_then _ _ _ _ _ _ _ c.in-Some.ensures.whole c.extend.ensures.one))

pub reach-requires-clause-served : goal.reach-requires-clause-served
reach-requires-clause-served g c = c.requires.served

pub reach-requires-clause-known : goal.reach-requires-clause-known
reach-requires-clause-known g c = c.requires.known

pub extend-requires-clause-served : goal.extend-requires-clause-served
extend-requires-clause-served g c = c.requires.served

pub extend-requires-clause-from : goal.extend-requires-clause-from
extend-requires-clause-from g c = c.requires.known _ 0 (before_end _ (some_node c.args.route.now c.if-is_empty.ensures))

pub extend-requires-clause-low : goal.extend-requires-clause-low
extend-requires-clause-low g c = c.requires.low

pub extend-requires-clause-high : goal.extend-requires-clause-high
extend-requires-clause-high g c = c.requires.high
