use Rattle.std.proofs.Common.{inl, inr, sym, ◌∙◌}
use Rattle.dimension_core.specs.Setup.{setting}
use Rattle.move_judge.proofs.allowed.may_go.Goals as goal

pub may_shift_inside-requires : goal.may_shift_inside-requires
may_shift_inside-requires g c =
    let f = (c.requires.laws.possible.shift (setting c.args.setup.now).customers c.args.view.now.routes c.in-Shift.vehicle c.in-Shift.place c.in-Shift.length c.in-Shift.to c.in-Shift.at).0 (rw c.in-Shift.is at c.requires.possible) in
    record { laws = c.requires.laws; view = c.requires.view; v = (f.from.vehicle.low, f.from.vehicle.high) }

pub may_shift-requires : goal.may_shift-requires
may_shift-requires g c = record { laws = c.requires.laws; view = c.requires.view; possible = rw c.in-Shift.is at c.requires.possible; apart = c.if-vehicle-to.false }

pub may_swap_inside-requires : goal.may_swap_inside-requires
may_swap_inside-requires g c =
    let f = (c.requires.laws.possible.swap (setting c.args.setup.now).customers c.args.view.now.routes c.in-Swap.vehicle c.in-Swap.place c.in-Swap.other c.in-Swap.at).0 (rw c.in-Swap.is at c.requires.possible) in
    record { laws = c.requires.laws; view = c.requires.view; v = (f.vehicle.low, f.vehicle.high) }

pub may_swap-requires : goal.may_swap-requires
may_swap-requires g c = record { laws = c.requires.laws; view = c.requires.view; possible = rw c.in-Swap.is at c.requires.possible; apart = c.if-vehicle-other.false }

pub may_reverse-requires : goal.may_reverse-requires
may_reverse-requires g c =
    let f = (c.requires.laws.possible.reverse (setting c.args.setup.now).customers c.args.view.now.routes c.in-Reverse.vehicle c.in-Reverse.first _).0 (rw c.in-Reverse.is at c.requires.possible) in
    record { laws = c.requires.laws; view = c.requires.view; v = (f.vehicle.low, f.vehicle.high) }

pub may_cross-requires : goal.may_cross-requires
may_cross-requires g c = record { laws = c.requires.laws; view = c.requires.view; possible = rw c.in-Cross.is at c.requires.possible }

pub returns-then-vehicle-to : goal.returns-then-vehicle-to
returns-then-vehicle-to g c =
    let can = rw (sym c.if-vehicle-to.true) at (rw c.in-Shift.is at c.requires.possible) in
    rw (c.in-Shift.is, sym c.if-vehicle-to.true) (c.may_shift_inside.ensures c.in-Shift.length can)

pub returns-else-vehicle-to : goal.returns-else-vehicle-to
returns-else-vehicle-to g c = rw c.in-Shift.is c.may_shift.ensures

pub returns-then-vehicle-other : goal.returns-then-vehicle-other
returns-then-vehicle-other g c =
    let near = rw c.in-Swap.is at c.requires.near.1.1 in
    let order = near.2 (sym near.0 ∙ c.if-vehicle-other.true ∙ near.1) in
    let can = rw (sym c.if-vehicle-other.true) at (rw c.in-Swap.is at c.requires.possible) in
    rw (c.in-Swap.is, sym c.if-vehicle-other.true) (c.may_swap_inside.ensures c.in-Swap.at order can)

pub returns-else-vehicle-other : goal.returns-else-vehicle-other
returns-else-vehicle-other g c = rw c.in-Swap.is c.may_swap.ensures

pub returns-in-Reverse : goal.returns-in-Reverse
returns-in-Reverse g c = rw c.in-Reverse.is (c.may_reverse.ensures _ (rw c.in-Reverse.is at c.requires.possible))

pub returns-in-Cross : goal.returns-in-Cross
returns-in-Cross g c = rw c.in-Cross.is c.may_cross.ensures

pub returns-in-Insert : goal.returns-in-Insert
returns-in-Insert g c =
    let near = c.requires.near.1.1 in
    elim c.in-Insert.is [
      | inl insert ↦ absurd (rw insert.3 at near)
      | inr remove ↦ absurd (rw remove.2 at near)
    ]
