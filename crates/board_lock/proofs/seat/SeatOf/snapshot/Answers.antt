use Rattle.std.proofs.Common.{ℕ, arith}
use Rattle.board_lock.proofs.Turns.{turns_grow}
use Rattle.board_lock.proofs.seat.SeatOf.snapshot.Goals as goal

pub invariant_of-self : goal.invariant_of-self
invariant_of-self g c =
    let n : ℕ = c.self.inside.number in
    let old = c.self.invariant in
    let grows = turns_grow n c.self.inside.eye.seen c.snapshot.new.self.seen c.snapshot.ensures.grows in
    (old.0, old.1, omega (arith, old.2, grows), old.3)
