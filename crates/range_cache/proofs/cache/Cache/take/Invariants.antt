use Rattle.std.proofs.Common.{◌≡◌, drop, length}
use Rattle.range_cache.specs.Pending.{with_rows}
use Rattle.range_cache.proofs.Caches.{AreTaking}
use Rattle.range_cache.proofs.cache.Cache.take.Given as goal

-- the rows that are left lead to what is promised
abbrev pub invariant-loop-k : goal.invariant-loop-k
invariant-loop-k l = record {
  sized : length l.rows.items ≡ length l.fn.pending.rows;
  taking : AreTaking (with_rows l.fn.pending.rows l.fn.self.rows) l.self-inside.rows.items (drop l.k l.rows.items);
}
