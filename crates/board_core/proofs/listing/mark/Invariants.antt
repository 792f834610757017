use Rattle.std.proofs.Common.{take}
use Rattle.board_core.specs.Shown.{AreMarkedOn}
use Rattle.board_core.proofs.listing.mark.Given as goal

-- the first customers are marked
abbrev pub invariant-loop-customer : goal.invariant-loop-customer
invariant-loop-customer l = AreMarkedOn (take l.customer-index l.route) l.fn.placed l.placed
