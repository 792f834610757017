use Rattle.std.proofs.Common.{refl, Ok, Err}
use Rattle.board_rules.specs.declared.reply.Fault.TheVariants.{NoMemory}
use Rattle.dimension_core.specs.Setup.{setting}
use Rattle.board_core.proofs.Keeping.{none_counted}
use Rattle.board_core.proofs.Taking.{due_turn, due_full, taken_turn, taken_full, not_turn, not_full}
use Rattle.board_core.proofs.body.Core.prepare.Goals as goal

pub returns-in-Some-clause-out_of_turn : goal.returns-in-Some-clause-out_of_turn
returns-in-Some-clause-out_of_turn g c =
    due_turn (setting c.args.setup.now) c.args.self.now c.args.event.desk c.args.event.turn c.in-Some.fault c.in-Some.ensures

pub returns-in-Some-clause-full : goal.returns-in-Some-clause-full
returns-in-Some-clause-full g c =
    due_full (setting c.args.setup.now) c.args.self.now c.args.event.desk c.args.event.turn c.in-Some.fault c.in-Some.ensures

pub returns-in-Ok-clause-out_of_turn : goal.returns-in-Ok-clause-out_of_turn
returns-in-Ok-clause-out_of_turn g c =
    taken_turn (setting c.args.setup.now) c.args.self.now c.args.event.desk c.args.event.turn (Ok c.in-Ok.prepared) (not_turn (Ok c.in-Ok.prepared) tt) c.in_default.ensures

pub returns-in-Ok-clause-full : goal.returns-in-Ok-clause-full
returns-in-Ok-clause-full g c =
    taken_full (setting c.args.setup.now) c.args.self.now c.args.event.desk c.args.event.turn (Ok c.in-Ok.prepared) (not_full (Ok c.in-Ok.prepared) tt) c.in_default.ensures

pub returns-in-Err-clause-out_of_turn : goal.returns-in-Err-clause-out_of_turn
returns-in-Err-clause-out_of_turn g c =
    taken_turn (setting c.args.setup.now) c.args.self.now c.args.event.desk c.args.event.turn (Err NoMemory) (not_turn (Err NoMemory) refl) c.in_default.ensures

pub returns-in-Err-clause-full : goal.returns-in-Err-clause-full
returns-in-Err-clause-full g c =
    taken_full (setting c.args.setup.now) c.args.self.now c.args.event.desk c.args.event.turn (Err NoMemory) (not_full (Err NoMemory) refl) c.in_default.ensures

pub judge-requires-clause-kept : goal.judge-requires-clause-kept
judge-requires-clause-kept g c = c.requires

pub judge-requires-clause-taken : goal.judge-requires-clause-taken
judge-requires-clause-taken g c = c.in_default.ensures

pub returns-in-Ok-clause-kept : goal.returns-in-Ok-clause-kept
returns-in-Ok-clause-kept g c = c.judge.ensures.kept

pub returns-in-Ok-clause-journal : goal.returns-in-Ok-clause-journal
returns-in-Ok-clause-journal g c = c.judge.ensures.journal

pub returns-in-Ok-clause-turns : goal.returns-in-Ok-clause-turns
returns-in-Ok-clause-turns g c = c.judge.ensures.turns

pub returns-in-Ok-clause-most : goal.returns-in-Ok-clause-most
returns-in-Ok-clause-most g c = c.judge.ensures.most

pub returns-in-Ok-clause-of : goal.returns-in-Ok-clause-of
returns-in-Ok-clause-of g c = c.in-Ok.ensures.of

pub returns-in-Ok-clause-entry : goal.returns-in-Ok-clause-entry
returns-in-Ok-clause-entry g c = c.in-Ok.ensures.entry

pub returns-in-Ok-clause-makes : goal.returns-in-Ok-clause-makes
returns-in-Ok-clause-makes g c = c.in-Ok.ensures.makes

pub returns-in-Ok-clause-untried : goal.returns-in-Ok-clause-untried
returns-in-Ok-clause-untried g c = c.in-Ok.ensures.untried

pub returns-in-Ok-clause-given_up : goal.returns-in-Ok-clause-given_up
returns-in-Ok-clause-given_up g c = c.in-Ok.ensures.given_up

pub returns-in-Ok-clause-work : goal.returns-in-Ok-clause-work
returns-in-Ok-clause-work g c = c.in-Ok.ensures.work

pub returns-in-Err-clause-kept : goal.returns-in-Err-clause-kept
returns-in-Err-clause-kept g c = c.judge.ensures.kept

pub returns-in-Err-clause-journal : goal.returns-in-Err-clause-journal
returns-in-Err-clause-journal g c = c.judge.ensures.journal

pub returns-in-Err-clause-turns : goal.returns-in-Err-clause-turns
returns-in-Err-clause-turns g c = c.judge.ensures.turns

pub returns-in-Err-clause-most : goal.returns-in-Err-clause-most
returns-in-Err-clause-most g c = c.judge.ensures.most

pub returns-in-Err-clause-untried : goal.returns-in-Err-clause-untried
returns-in-Err-clause-untried g c = c.in-Err.ensures.untried

pub returns-in-Some-clause-most : goal.returns-in-Some-clause-most
returns-in-Some-clause-most g c = none_counted _ _ _
