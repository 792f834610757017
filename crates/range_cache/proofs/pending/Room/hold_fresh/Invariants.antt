use Rattle.std.proofs.Common.{◌-◌, length}
use Rattle.range_cache.proofs.pending.Room.hold_fresh.Given as goal

-- how many are missing
abbrev pub decreases-fresh : goal.decreases-fresh
decreases-fresh l = l.count - length l.self.fresh.items
