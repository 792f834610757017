use Rattle.std.proofs.Common.{◌≡◌, ◌<◌, ◌≤◌, length, take}
use Rattle.std.specs.Prelude.{Some}
use Rattle.callback_store.specs.Registry.{tables}
use Rattle.dimension_core.specs.Cumuls.{IsSpan, Reaches, last_of, table_of}
use Rattle.denial_facts.specs.Misses.{stops_of}
use Rattle.denial_facts.proofs.miss.first_miss.Given as goal

abbrev pub invariant-loop-k : goal.invariant-loop-k
invariant-loop-k g l =
    IsSpan (Some l.range) (Reaches (table_of (tables l.registry) l.dimension) l.dimension l.vehicle (take l.k (stops_of l.route)))
    × (l.from ≡ last_of 0 (take l.k (stops_of l.route)))
    × (l.from < length l.dimension.ranges)
    × (l.range.hi ≤ 1000000000000)
