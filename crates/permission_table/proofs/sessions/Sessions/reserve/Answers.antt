use Rattle.std.proofs.Common.{arith, length, subst, sym, ℕ, List, ◌≤◌, ◌-◌, min}
use Rattle.indexmap.specs.IndexMap.{spare}
use Rattle.permission_table.specs.Bits.{SessionAccess}
use Rattle.permission_table.specs.Reaching.{AreReached}
use Rattle.permission_table.proofs.ReachLaws.{reserved_reached, ok_map}
use Rattle.permission_table.proofs.sessions.Sessions.reserve.Goals as goal

pub invariant_of-self-2 : goal.invariant_of-self-2
invariant_of-self-2 c =
    subst (λ (es : List (ℕ × SessionAccess)). AreReached c.reserve-2.new.self es) (sym c.in_ok-reserve.ensures.entries)
    (reserved_reached c.self.inside.reaching c.reserve-2.new.self c.self.inside.rows.entries c.self.invariant c.reserve-2.ensures.whole c.reserve-2.ensures.longer c.reserve-2.ensures.same c.reserve-2.ensures.new)

pub returns-clause-enough : goal.returns-clause-enough
returns-clause-enough c =
    ok_map c.reserve-2.result (c.in-Some.places ≤ length c.reserve-2.new.self) (c.args.more ≤ min (spare c.reserve.new.self) (length c.reserve-2.new.self - length c.reserve.new.self.entries))
    (λ h. omega (arith, h, c.in-Some.ensures, c.len.ensures.len, c.in_ok-reserve.ensures.ok)) c.reserve-2.ensures.room
