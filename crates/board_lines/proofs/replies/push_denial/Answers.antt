use Rattle.board_lines.proofs.replies.push_denial.Goals as goal

pub returns-in-NoSession : goal.returns-in-NoSession
returns-in-NoSession c = record { ok = rw c.in-NoSession.is c.push_text.ensures.ok; left = rw c.in-NoSession.is c.push_text.ensures.left }

pub returns-in-BadVehicle : goal.returns-in-BadVehicle
returns-in-BadVehicle c = record { ok = rw c.in-BadVehicle.is c.push_text-in-BadVehicle.ensures.ok; left = rw c.in-BadVehicle.is c.push_text-in-BadVehicle.ensures.left }

pub returns-in-AccessVehicle : goal.returns-in-AccessVehicle
returns-in-AccessVehicle c = record { ok = rw c.in-AccessVehicle.is c.push_with.ensures.ok; left = rw c.in-AccessVehicle.is c.push_with.ensures.left }

pub returns-in-Ahead : goal.returns-in-Ahead
returns-in-Ahead c = record { ok = rw c.in-Ahead.is c.push_text-in-Ahead.ensures.ok; left = rw c.in-Ahead.is c.push_text-in-Ahead.ensures.left }

pub returns-in-Stale : goal.returns-in-Stale
returns-in-Stale c = record { ok = rw c.in-Stale.is c.push_with-in-Stale.ensures.ok; left = rw c.in-Stale.is c.push_with-in-Stale.ensures.left }

pub returns-in-BadPlace : goal.returns-in-BadPlace
returns-in-BadPlace c = record { ok = rw c.in-BadPlace.is c.push_text-in-BadPlace.ensures.ok; left = rw c.in-BadPlace.is c.push_text-in-BadPlace.ensures.left }

pub returns-in-AccessCustomer : goal.returns-in-AccessCustomer
returns-in-AccessCustomer c = record { ok = rw c.in-AccessCustomer.is c.push_with_two.ensures.ok; left = rw c.in-AccessCustomer.is c.push_with_two.ensures.left }

pub returns-in-Frozen : goal.returns-in-Frozen
returns-in-Frozen c = record { ok = rw c.in-Frozen.is c.push_with-in-Frozen.ensures.ok; left = rw c.in-Frozen.is c.push_with-in-Frozen.ensures.left }

pub returns-in-Pinned : goal.returns-in-Pinned
returns-in-Pinned c = record { ok = rw c.in-Pinned.is c.push_with_two-in-Pinned.ensures.ok; left = rw c.in-Pinned.is c.push_with_two-in-Pinned.ensures.left }

pub returns-in-Bound : goal.returns-in-Bound
returns-in-Bound c = record { ok = rw c.in-Bound.is c.push_with_two-in-Bound.ensures.ok; left = rw c.in-Bound.is c.push_with_two-in-Bound.ensures.left }
