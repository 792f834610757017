use Rattle.board_text.proofs.text.push_note.Goals as goal

pub returns-in-Load : goal.returns-in-Load
returns-in-Load c = rw c.in-Load.is c.push_load.ensures

pub returns-in-Late : goal.returns-in-Late
returns-in-Late c = rw c.in-Late.is c.push_late.ensures

pub returns-in-Start : goal.returns-in-Start
returns-in-Start c = rw c.in-Start.is c.push_one.ensures

pub returns-in-Customer : goal.returns-in-Customer
returns-in-Customer c = rw c.in-Customer.is c.push_customer.ensures

pub returns-in-Stale : goal.returns-in-Stale
returns-in-Stale c = rw c.in-Stale.is c.push_stale.ensures

pub returns-in-Ahead : goal.returns-in-Ahead
returns-in-Ahead c = rw c.in-Ahead.is c.push_last.ensures

pub returns-in-Place : goal.returns-in-Place
returns-in-Place c = rw c.in-Place.is c.push_cause.ensures

pub returns-in-Rule : goal.returns-in-Rule
returns-in-Rule c = rw c.in-Rule.is c.push_rule.ensures
