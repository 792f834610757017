use Rattle.std.proofs.Common.{◌<◌, ◌+◌, ◌*◌, ℕ, sym, subst, arith, length, ◌∙◌}
use Rattle.std.proofs.lemmas.List.{length-set}
use Rattle.std.proofs.lemmas.Nat.{mul-add-lt}
use Rattle.travel_table.proofs.Filling.{known_more, known_own}
use Rattle.travel_table.proofs.travel.fill_node.Goals as goal

pub bounds-entries-j : goal.bounds-entries-j
bounds-entries-j c =
    let n = length c.args.points.now in
    let whole = length-set c.loop-j.entries (c.args.i * n + c.loop-j.j) c.way_between-travel.result ∙ c.loop-j.invariant.counted in
    subst (λ (m : ℕ). c.loop-j.j * n + c.args.i < m) (sym whole) (mul-add-lt c.loop-j.j n c.args.i n c.loop-j-test.true c.requires.point)

pub bounds-entries-i-in-loop-j : goal.bounds-entries-i-in-loop-j
bounds-entries-i-in-loop-j c =
    let n = length c.args.points.now in
    subst (λ (m : ℕ). c.args.i * n + c.loop-j.j < m) (sym c.loop-j.invariant.counted) (mul-add-lt c.args.i n c.loop-j.j n c.requires.point c.loop-j-test.true)

pub loop-j-init : goal.loop-j-init
loop-j-init c = known_own c.args.points.now c.args.entries.now c.args.i c.requires.point c.requires.filled

pub loop-j-preserved : goal.loop-j-preserved
loop-j-preserved c =
    known_more c.args.points.now c.loop-j.entries c.args.i c.loop-j.j c.way_between-travel.result (omega arith) c.loop-j-test.true c.loop-j.invariant
    c.way_between-travel.ensures.root c.way_between-travel.ensures.small
