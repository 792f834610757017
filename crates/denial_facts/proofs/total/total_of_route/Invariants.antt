use Rattle.std.proofs.Common.{◌≡◌, ◌+◌, ◌*◌, ◌<◌, ◌≤◌, length, drop}
use Rattle.callback_store.specs.Registry.{tables}
use Rattle.dimension_core.specs.Cumuls.{table_of}
use Rattle.denial_facts.specs.Misses.{stops_of}
use Rattle.denial_facts.specs.Totals.{ways_along, total_of}
use Rattle.denial_facts.proofs.total.total_of_route.Given as goal

abbrev pub invariant-loop-k : goal.invariant-loop-k
invariant-loop-k g l =
    (l.sum + ways_along (table_of (tables l.registry) l.dimension) l.from (drop l.k (stops_of l.route)) ≡ total_of (table_of (tables l.registry) l.dimension) l.route)
    × (l.from < length l.dimension.ranges)
    × (l.sum ≤ l.k * 1000000000)
