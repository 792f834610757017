use Rattle.std.proofs.Common.{◌*◌, length, take}
use Rattle.callback_store.specs.Meter.{AsksJust}
use Rattle.dimension_core.specs.Setup.{setting}
use Rattle.plan_core.specs.Cost.{asks_of}
use Rattle.range_cache.proofs.Caches.{AreMade}
use Rattle.range_cache.proofs.cache.Cache.of.Given as goal

-- the rows of the vehicles so far
abbrev pub invariant-loop-before : goal.invariant-loop-before
invariant-loop-before g l = record {
  made : AreMade (setting l.setup) l.plan.routes l.before l.rows.items;
  asks : AsksJust l.fn.meter l.meter (length (setting l.setup).dimensions * asks_of (take l.before l.plan.routes));
}
