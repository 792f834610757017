use Rattle.std.proofs.Common.{refl}
use Rattle.line_engine.proofs.Marked.{bad_head, begun, drops_as, marks_as}
use Rattle.line_engine.proofs.engine.answer.Goals as goal

pub returns-in-Err-clause-ok : goal.returns-in-Err-clause-ok
returns-in-Err-clause-ok g c = bad_head g.F.Front.step _ _ _ c.in-Err.ensures _

pub returns-in-Ok-Asks-default-Propose-default : goal.returns-in-Ok-Asks-default-Propose-default
returns-in-Ok-Asks-default-Propose-default g c =
    let e = begun _ _ _ _ _ _ c.in-Ok-Asks-default-Propose-default.field-0-is c.in-Ok-Asks-default-Propose-default.field-0-1-is c.in-Ok-Asks-default-Propose-default.ensures in
    record { ready = c.ask_move.ensures.ready; ok = marks_as g.F.Front.step _ _ _ _ e _ _ c.ask_move.ensures.ok; err = drops_as g.F.Front.step g.F.Front.refuses _ _ _ _ e _ c.ask_move.ensures.err }

pub returns-in-Ok-Asks-default-Manage-default : goal.returns-in-Ok-Asks-default-Manage-default
returns-in-Ok-Asks-default-Manage-default g c =
    let e = begun _ _ _ _ _ _ c.in-Ok-Asks-default-Manage-default.field-0-is c.in-Ok-Asks-default-Manage-default.field-0-1-is c.in-Ok-Asks-default-Manage-default.ensures in
    record { ready = c.ask_order.ensures.ready; ok = marks_as g.F.Front.step _ _ _ _ e _ _ c.ask_order.ensures.ok; err = drops_as g.F.Front.step g.F.Front.refuses _ _ _ _ e _ c.ask_order.ensures.err }

pub returns-in-Ok-Asks-default-Hold-default : goal.returns-in-Ok-Asks-default-Hold-default
returns-in-Ok-Asks-default-Hold-default g c =
    let e = begun _ _ _ _ _ _ c.in-Ok-Asks-default-Hold-default.field-0-is c.in-Ok-Asks-default-Hold-default.field-0-1-is c.in-Ok-Asks-default-Hold-default.ensures in
    record { ready = c.ask_hold.ensures.ready; ok = marks_as g.F.Front.step _ _ _ _ e _ _ c.ask_hold.ensures.ok; err = drops_as g.F.Front.step g.F.Front.refuses _ _ _ _ e _ c.ask_hold.ensures.err }

pub returns-in-Ok-Asks : goal.returns-in-Ok-Asks
returns-in-Ok-Asks g c =
    let e = begun _ _ _ _ _ _ c.in-Ok-Asks.field-0-is refl c.in-Ok-Asks.ensures in
    record { ready = c.ask.ensures.ready; ok = marks_as g.F.Front.step _ _ _ _ e _ _ c.ask.ensures.ok; err = drops_as g.F.Front.step g.F.Front.refuses _ _ _ _ e _ c.ask.ensures.err }
