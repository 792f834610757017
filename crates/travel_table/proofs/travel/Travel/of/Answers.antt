use Rattle.std.proofs.Common.{rules, ◌≡◌, ◌*◌, ℕ, length, arith, subst}
use Rattle.travel_table.specs.Travel.{AreKnown}
use Rattle.travel_table.proofs.Filling.{known_whole}
use Rattle.travel_table.proofs.travel.Travel.of.Goals as goal

pub returns : goal.returns
returns c =
    let points = c.in_ok-points.points.items in
    let all : c.loop-i.i ≡ length points = omega (arith, c.loop-i-test.false, c.loop-i.auto.i-end) in
    let whole = subst (λ (m : ℕ). AreKnown points c.loop-i.entries.items (m * length points)) all c.loop-i.invariant in
    let e = c.as_slice.ensures.value in
    let there = known_whole _ points c.loop-i.entries.items c.in_ok-points.ensures.value whole in
    search rules
