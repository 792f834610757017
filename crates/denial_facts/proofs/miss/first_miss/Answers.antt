use Rattle.std.proofs.Common.{◌<◌, ◌≤◌, arith, length, refl, [], ◌∷◌, ◌∙◌}
use Rattle.std.proofs.lemmas.List.{length-append}
use Rattle.callback_store.specs.Registry.{tables}
use Rattle.dimension_core.specs.Cumuls.{table_of}
use Rattle.denial_facts.specs.Misses.{stops_of}
use Rattle.denial_facts.proofs.Missing.{at_end, missed}
use Rattle.denial_facts.proofs.miss.first_miss.Goals as goal

pub loop-k-preserved : goal.loop-k-preserved
loop-k-preserved g c =
    let stops = stops_of c.args.route.now in
    let t = table_of (tables c.args.registry.now) c.args.dimension.now in
    let d = c.args.dimension.now in
    let v = c.args.vehicle in
    let law = c.spans_go_on.ensures in
    let k = c.loop-k.k in
    let within : k < length stops = omega (arith, length-append c.args.route.now (0 ∷ [])) in (
      law.next t d v stops k c.loop-k.from c.stop_at-node.result c.loop-k.range _ within c.loop-k.invariant.0 c.loop-k.invariant.1
          c.stop_at-node.ensures.value c.in-Some-extend.ensures.span,
      c.stop_at-node.ensures.value ∙ law.last stops k within,
      c.stop_at-node.ensures.known (length d.ranges) c.start.ensures.depot c.requires.known,
      c.in-Some-extend.ensures.small,
    )

pub loop-k-init : goal.loop-k-init
loop-k-init g c =
    let t = table_of (tables c.args.registry.now) c.args.dimension.now in
    (c.spans_go_on.ensures.start t c.args.dimension.now c.args.vehicle _ c.in-Some.ensures.span, refl, c.in-Some.ensures.depot, c.in-Some.ensures.small)

pub returns-in-None : goal.returns-in-None
returns-in-None g c =
    let stops = stops_of c.args.route.now in
    let t = table_of (tables c.args.registry.now) c.args.dimension.now in
    let within : c.loop-k.k < length stops = omega (arith, length-append c.args.route.now (0 ∷ [])) in
    missed t c.args.dimension.now c.args.vehicle stops c.loop-k.k c.loop-k.from c.stop_at-node.result c.least_after.result c.most_at.result c.loop-k.range
    c.spans_go_on.ensures within c.loop-k.invariant.0 c.loop-k.invariant.1 c.stop_at-node.ensures.value c.in-None.ensures.span
    c.least_after.ensures c.most_at.ensures

pub returns : goal.returns
returns g c =
    let t = table_of (tables c.args.registry.now) c.args.dimension.now in
    at_end t c.args.dimension.now c.args.vehicle c.args.route.now c.loop-k.k c.loop-k.range c.spans_go_on.ensures (omega arith) c.loop-k.invariant.0

pub stop_at-node-requires : goal.stop_at-node-requires
stop_at-node-requires g c = omega arith

pub extend-requires-clause-to : goal.extend-requires-clause-to
extend-requires-clause-to g c = c.stop_at-node.ensures.known (length c.args.dimension.now.ranges) c.start.ensures.depot c.requires.known

pub least_after-requires-clause-to : goal.least_after-requires-clause-to
least_after-requires-clause-to g c = c.stop_at-node.ensures.known (length c.args.dimension.now.ranges) c.start.ensures.depot c.requires.known

pub least_after-requires-clause-early : goal.least_after-requires-clause-early
least_after-requires-clause-early g c = let filled : c.loop-k.range.lo ≤ c.loop-k.range.hi = c.loop-k.invariant.0.filled in omega (arith, filled, c.loop-k.invariant.3)

pub most_at-requires-clause-to : goal.most_at-requires-clause-to
most_at-requires-clause-to g c = c.stop_at-node.ensures.known (length c.args.dimension.now.ranges) c.start.ensures.depot c.requires.known
