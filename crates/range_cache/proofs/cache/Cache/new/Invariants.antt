use Rattle.std.proofs.Common.{◌≡◌, replicate}
use Rattle.range_cache.specs.Cache.{no_row}
use Rattle.range_cache.proofs.cache.Cache.new.Given as goal

-- one empty row for each vehicle so far
abbrev pub invariant-loop : goal.invariant-loop
invariant-loop g l = l.rows.items ≡ replicate l.counter no_row
