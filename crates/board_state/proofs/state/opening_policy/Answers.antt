use Rattle.board_state.specs.Held.{IsOpened}
use Rattle.board_state.proofs.state.opening_policy.Goals as goal

pub opening_tables-requires-clause-opening : goal.opening_tables-requires-clause-opening
opening_tables-requires-clause-opening c = c.in_ok-opening.ensures

pub returns : goal.returns
unfolding IsOpened
returns c = (c.in_ok-opening.ensures, c.in_ok-tables.ensures.compiled, c.in_ok-tables.ensures.sizes)
