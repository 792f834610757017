use Rattle.std.proofs.Common.{rules, append_assoc}
use Rattle.board_lines.proofs.Starting.{on_err, cut_more, err_then}
use Rattle.board_lines.proofs.replies.push_refusal.Goals as goal

pub returns-in-NoSession : goal.returns-in-NoSession
returns-in-NoSession c = record { ok = rw c.in-NoSession.is c.push_text.ensures.ok; left = rw c.in-NoSession.is c.push_text.ensures.left }

pub returns-in-NoAccess : goal.returns-in-NoAccess
returns-in-NoAccess c = record { ok = rw c.in-NoAccess.is c.push_text-in-NoAccess.ensures.ok; left = rw c.in-NoAccess.is c.push_text-in-NoAccess.ensures.left }

pub returns-in-BadVehicle : goal.returns-in-BadVehicle
returns-in-BadVehicle c = record { ok = rw c.in-BadVehicle.is c.push_text-in-BadVehicle.ensures.ok; left = rw c.in-BadVehicle.is c.push_text-in-BadVehicle.ensures.left }

pub returns-in-BadCustomer : goal.returns-in-BadCustomer
returns-in-BadCustomer c = record { ok = rw c.in-BadCustomer.is c.push_text-in-BadCustomer.ensures.ok; left = rw c.in-BadCustomer.is c.push_text-in-BadCustomer.ensures.left }

pub returns-in-NoUser : goal.returns-in-NoUser
returns-in-NoUser c = record { ok = rw c.in-NoUser.is c.push_text-in-NoUser.ensures.ok; left = rw c.in-NoUser.is c.push_text-in-NoUser.ensures.left }

pub returns-in-NoRole : goal.returns-in-NoRole
returns-in-NoRole c = record { ok = rw c.in-NoRole.is c.push_text-in-NoRole.ensures.ok; left = rw c.in-NoRole.is c.push_text-in-NoRole.ensures.left }

pub returns-in-NoSet : goal.returns-in-NoSet
returns-in-NoSet c = record { ok = rw c.in-NoSet.is c.push_text-in-NoSet.ensures.ok; left = rw c.in-NoSet.is c.push_text-in-NoSet.ensures.left }

pub returns-in-BadObject : goal.returns-in-BadObject
returns-in-BadObject c = record { ok = rw c.in-BadObject.is c.push_text-in-BadObject.ensures.ok; left = rw c.in-BadObject.is c.push_text-in-BadObject.ensures.left }

pub returns-in-Already : goal.returns-in-Already
returns-in-Already c = record { ok = rw c.in-Already.is c.push_text-in-Already.ensures.ok; left = rw c.in-Already.is c.push_text-in-Already.ensures.left }

pub returns-in-NotThere : goal.returns-in-NotThere
returns-in-NotThere c = record { ok = rw c.in-NotThere.is c.push_text-in-NotThere.ensures.ok; left = rw c.in-NotThere.is c.push_text-in-NotThere.ensures.left }

pub returns-in-NotAuthorized : goal.returns-in-NotAuthorized
returns-in-NotAuthorized c = record { ok = rw c.in-NotAuthorized.is c.push_text-in-NotAuthorized.ensures.ok; left = rw c.in-NotAuthorized.is c.push_text-in-NotAuthorized.ensures.left }

pub returns-in-Cycle : goal.returns-in-Cycle
returns-in-Cycle c = record { ok = rw c.in-Cycle.is c.push_text-in-Cycle.ensures.ok; left = rw c.in-Cycle.is c.push_text-in-Cycle.ensures.left }

pub returns-in-InSet : goal.returns-in-InSet
returns-in-InSet c = record { ok = rw c.in-InSet.is c.push_text-in-InSet.ensures.ok; left = rw c.in-InSet.is c.push_text-in-InSet.ensures.left }

pub returns-in-Number : goal.returns-in-Number
returns-in-Number c = record { ok = rw c.in-Number.is c.push_text-in-Number.ensures.ok; left = rw c.in-Number.is c.push_text-in-Number.ensures.left }

pub returns-in-Full : goal.returns-in-Full
returns-in-Full c = record { ok = rw c.in-Full.is c.push_text-in-Full.ensures.ok; left = rw c.in-Full.is c.push_text-in-Full.ensures.left }

pub returns-in-NotPlaced : goal.returns-in-NotPlaced
returns-in-NotPlaced c = record { ok = rw c.in-NotPlaced.is c.push_text-in-NotPlaced.ensures.ok; left = rw c.in-NotPlaced.is c.push_text-in-NotPlaced.ensures.left }

pub returns-in-Length : goal.returns-in-Length
returns-in-Length c = record { ok = rw c.in-Length.is c.push_text-in-Length.ensures.ok; left = rw c.in-Length.is c.push_text-in-Length.ensures.left }

pub returns-in_err-push_text-in-Ssd-clause-left : goal.returns-in_err-push_text-in-Ssd-clause-left
returns-in_err-push_text-in-Ssd-clause-left c = on_err _ (cut_more _ _ c.in-Ssd.name _ _ c.in_err-push_text-in-Ssd.ensures.left (rw c.in-Ssd.is (search rules)))

pub returns-in_ok-push_text-in-Ssd-clause-left : goal.returns-in_ok-push_text-in-Ssd-clause-left
returns-in_ok-push_text-in-Ssd-clause-left c = err_then _ _ _ _ _ _ _ c.in_ok-push_text-in-Ssd.ensures.ok c.push_text-in-Ssd-2.ensures.left (search (rules, append_assoc))

pub returns-in_err-push_text-in-Dsd-clause-left : goal.returns-in_err-push_text-in-Dsd-clause-left
returns-in_err-push_text-in-Dsd-clause-left c = on_err _ (cut_more _ _ c.in-Dsd.name _ _ c.in_err-push_text-in-Dsd.ensures.left (rw c.in-Dsd.is (search rules)))

pub returns-in_ok-push_text-in-Dsd-clause-left : goal.returns-in_ok-push_text-in-Dsd-clause-left
returns-in_ok-push_text-in-Dsd-clause-left c = err_then _ _ _ _ _ _ _ c.in_ok-push_text-in-Dsd.ensures.ok c.push_text-in-Dsd-2.ensures.left (search (rules, append_assoc))
