use Rattle.std.proofs.Common.{◌<◌, arith, length, [], ◌∷◌}
use Rattle.std.proofs.lemmas.List.{length-append}
use Rattle.callback_store.specs.Registry.{tables}
use Rattle.dimension_core.specs.Cumuls.{table_of}
use Rattle.denial_facts.specs.Misses.{stops_of}
use Rattle.denial_facts.specs.Totals.{total_of}
use Rattle.denial_facts.proofs.Totals.{along_next}
use Rattle.denial_facts.proofs.total.total_of_route.Goals as goal

pub loop-k-preserved : goal.loop-k-preserved
loop-k-preserved g c =
    let route = c.args.route.now in
    let within : c.loop-k.k < length (stops_of route) = omega (arith, length-append route (0 ∷ [])) in
    let t = table_of (tables c.args.registry.now) c.args.dimension.now in (
      along_next t (stops_of route) c.loop-k.k c.loop-k.from c.stop_at-node.result c.loop-k.sum c.ask-sum.result (total_of t route) within
          c.stop_at-node.ensures.value (rw c.id.ensures at c.ask-sum.ensures.answer) c.loop-k.invariant.0,
      c.stop_at-node.ensures.known (length c.args.dimension.now.ranges) (omega (arith, c.nodes-depots.ensures.value, c.nodes-depots.ensures.low)) c.requires.known,
      omega (arith, c.ask-sum.ensures.small, c.loop-k.invariant.2),
    )

pub ask-sum-requires-clause-registered : goal.ask-sum-requires-clause-registered
ask-sum-requires-clause-registered g c = rw c.id.ensures c.requires.served.registered

pub ask-sum-requires-clause-from : goal.ask-sum-requires-clause-from
ask-sum-requires-clause-from g c = rw c.requires.served.sized c.loop-k.invariant.1

pub ask-sum-requires-clause-to : goal.ask-sum-requires-clause-to
ask-sum-requires-clause-to g c =
    rw c.requires.served.sized (c.stop_at-node.ensures.known (length c.args.dimension.now.ranges) (omega (arith, c.nodes-depots.ensures.value, c.nodes-depots.ensures.low)) c.requires.known)
