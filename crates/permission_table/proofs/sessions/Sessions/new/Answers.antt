use Rattle.std.proofs.Common.{arith, ap, length}
use Rattle.permission_table.proofs.ReachLaws.{none_reached}
use Rattle.permission_table.proofs.sessions.Sessions.new.Goals as goal

pub invariant_of-result : goal.invariant_of-result
invariant_of-result c =
    none_reached c.reserve.new.self c.in_ok-with_capacity.field-0.entries c.in_ok-with_capacity.ensures.empty c.reserve.ensures.whole
    (λ role place small within. c.reserve.ensures.new role place small (omega (arith, ap length c.new-reaching.ensures)) within)
