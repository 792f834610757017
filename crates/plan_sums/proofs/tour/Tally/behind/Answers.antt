use Rattle.std.proofs.Common.{arith, sym, ◌∙◌}
use Rattle.plan_sums.proofs.Tallies.{first_row, next_row}
use Rattle.plan_sums.proofs.tour.Tally.behind.Goals as goal

pub overflow_add-result : goal.overflow_add-result
overflow_add-result c = omega (arith, c.requires.tally.small, c.requires.rows.few, c.requires.within, c.requires.small)

pub returns-then-is_first : goal.returns-then-is_first
returns-then-is_first c = first_row c.args.roads.now c.args.rows.now c.args.k c.args.way (sym c.is_first.ensures ∙ c.if-is_first.true) c.requires.way c.requires.small

pub returns-else-is_first : goal.returns-else-is_first
returns-else-is_first c = next_row c.args.roads.now c.args.rows.now c.args.k c.args.way c.args.self (sym c.is_first.ensures ∙ c.if-is_first.false) c.requires.tally c.requires.way c.requires.small
