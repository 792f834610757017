use Rattle.board_text.proofs.text.push_rule.Goals as goal

pub returns-in-NoSession : goal.returns-in-NoSession
returns-in-NoSession c = rw c.in-NoSession.is c.push_text.ensures

pub returns-in-BadVehicle : goal.returns-in-BadVehicle
returns-in-BadVehicle c = rw c.in-BadVehicle.is c.push_text-in-BadVehicle.ensures

pub returns-in-AccessVehicle : goal.returns-in-AccessVehicle
returns-in-AccessVehicle c = rw c.in-AccessVehicle.is c.push_last.ensures

pub returns-in-Ahead : goal.returns-in-Ahead
returns-in-Ahead c = rw c.in-Ahead.is c.push_text-in-Ahead.ensures

pub returns-in-Stale : goal.returns-in-Stale
returns-in-Stale c = rw c.in-Stale.is c.push_one.ensures

pub returns-in-BadPlace : goal.returns-in-BadPlace
returns-in-BadPlace c = rw c.in-BadPlace.is c.push_text-in-BadPlace.ensures

pub returns-in-AccessCustomer : goal.returns-in-AccessCustomer
returns-in-AccessCustomer c = rw c.in-AccessCustomer.is c.push_two.ensures

pub returns-in-Frozen : goal.returns-in-Frozen
returns-in-Frozen c = rw c.in-Frozen.is c.push_one-in-Frozen.ensures

pub returns-in-Pinned : goal.returns-in-Pinned
returns-in-Pinned c = rw c.in-Pinned.is c.push_pinned.ensures

pub returns-in-Bound : goal.returns-in-Bound
returns-in-Bound c = rw c.in-Bound.is c.push_two-in-Bound.ensures
