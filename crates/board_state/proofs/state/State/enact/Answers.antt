use Rattle.board_state.proofs.Commanding.{settled_untried}
use Rattle.board_state.proofs.Stepping.{holds_from, customers_stay}
use Rattle.board_state.proofs.state.State.enact.Goals as goal

pub returns-clause-holds : goal.returns-clause-holds
returns-clause-holds c s next will =
    let change = c.args.change in
    let put = c.put.ensures in
    holds_from s c.args.self.now c.put.new.self change next put.policy put.compiled put.customers put.vehicles put.plan put.pins
    (customers_stay c.args.self.now.plan change) (put.ranges s) will

pub returns-clause-untried : goal.returns-clause-untried
returns-clause-untried c given =
    settled_untried c.args.self.now.policy c.put.new.self.policy c.args.change c.put.ensures.policy c.put.ensures.tried given
