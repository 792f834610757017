use Rattle.board_lines.proofs.replies.push_ask_fault.Goals as goal

pub unreachable-requires : goal.unreachable-requires
unreachable-requires c = c.requires c.in-NoMemory.is

pub returns-in-NoSession : goal.returns-in-NoSession
returns-in-NoSession c = record { ok = rw c.in-NoSession.is c.push_text.ensures.ok; left = rw c.in-NoSession.is c.push_text.ensures.left }

pub returns-in-NoAccess : goal.returns-in-NoAccess
returns-in-NoAccess c = record { ok = rw c.in-NoAccess.is c.push_text-in-NoAccess.ensures.ok; left = rw c.in-NoAccess.is c.push_text-in-NoAccess.ensures.left }

pub returns-in-NoUser : goal.returns-in-NoUser
returns-in-NoUser c = record { ok = rw c.in-NoUser.is c.push_text-in-NoUser.ensures.ok; left = rw c.in-NoUser.is c.push_text-in-NoUser.ensures.left }

pub returns-in-NoRole : goal.returns-in-NoRole
returns-in-NoRole c = record { ok = rw c.in-NoRole.is c.push_text-in-NoRole.ensures.ok; left = rw c.in-NoRole.is c.push_text-in-NoRole.ensures.left }

pub returns-in-NotThere : goal.returns-in-NotThere
returns-in-NotThere c = record { ok = rw c.in-NotThere.is c.push_text-in-NotThere.ensures.ok; left = rw c.in-NotThere.is c.push_text-in-NotThere.ensures.left }
