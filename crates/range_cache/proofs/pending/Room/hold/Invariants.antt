use Rattle.std.proofs.Common.{◌≡◌, ◌-◌, length}
use Rattle.range_cache.proofs.pending.Room.hold.Given as goal

-- how many rows are missing
abbrev pub decreases-rows : goal.decreases-rows
decreases-rows l = l.count - length l.self.rows.items

abbrev pub invariant-rows : goal.invariant-rows
invariant-rows l = l.self.fresh.items ≡ l.fn.self.fresh.items
