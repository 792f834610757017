use Rattle.std.proofs.Common.{refl, Ok, Err}
use Rattle.dimension_core.specs.Setup.{setting}
use Rattle.board_rules.specs.declared.reply.Fault.TheVariants.{NoMemory}
use Rattle.board_core.proofs.Keeping.{none_counted}
use Rattle.board_core.proofs.Taking.{due_turn, due_full, taken_turn, taken_full, not_turn, not_full}
use Rattle.board_core.proofs.body.Core.answer_hold.Goals as goal

pub hold-requires-clause-kept : goal.hold-requires-clause-kept
hold-requires-clause-kept g c = c.requires

pub hold-requires-clause-taken : goal.hold-requires-clause-taken
hold-requires-clause-taken g c = c.in_default.ensures

pub returns-in-Some-clause-out_of_turn : goal.returns-in-Some-clause-out_of_turn
returns-in-Some-clause-out_of_turn g c =
    due_turn (setting c.args.setup.now) c.args.self.now c.args.desk c.args.turn c.in-Some.fault c.in-Some.ensures

pub returns-in-Ok-clause-out_of_turn : goal.returns-in-Ok-clause-out_of_turn
returns-in-Ok-clause-out_of_turn g c =
    taken_turn (setting c.args.setup.now) c.args.self.now c.args.desk c.args.turn (Ok c.reply.result) (not_turn (Ok c.reply.result) tt) c.in_default.ensures

pub returns-in-Err-clause-out_of_turn : goal.returns-in-Err-clause-out_of_turn
returns-in-Err-clause-out_of_turn g c =
    taken_turn (setting c.args.setup.now) c.args.self.now c.args.desk c.args.turn (Err NoMemory) (not_turn (Err NoMemory) refl) c.in_default.ensures

pub returns-in-Some-clause-full : goal.returns-in-Some-clause-full
returns-in-Some-clause-full g c =
    due_full (setting c.args.setup.now) c.args.self.now c.args.desk c.args.turn c.in-Some.fault c.in-Some.ensures

pub returns-in-Ok-clause-full : goal.returns-in-Ok-clause-full
returns-in-Ok-clause-full g c =
    taken_full (setting c.args.setup.now) c.args.self.now c.args.desk c.args.turn (Ok c.reply.result) (not_full (Ok c.reply.result) tt) c.in_default.ensures

pub returns-in-Err-clause-full : goal.returns-in-Err-clause-full
returns-in-Err-clause-full g c =
    taken_full (setting c.args.setup.now) c.args.self.now c.args.desk c.args.turn (Err NoMemory) (not_full (Err NoMemory) refl) c.in_default.ensures

pub returns-in-Some-clause-most : goal.returns-in-Some-clause-most
returns-in-Some-clause-most g c = none_counted _ _ _

pub returns-in-Ok-clause-kept : goal.returns-in-Ok-clause-kept
returns-in-Ok-clause-kept g c = c.hold.ensures.kept

pub returns-in-Ok-clause-desks : goal.returns-in-Ok-clause-desks
returns-in-Ok-clause-desks g c = c.hold.ensures.desks

pub returns-in-Ok-clause-untried : goal.returns-in-Ok-clause-untried
returns-in-Ok-clause-untried g c = c.hold.ensures.untried

pub returns-in-Ok-clause-most : goal.returns-in-Ok-clause-most
returns-in-Ok-clause-most g c = c.hold.ensures.most

pub returns-in-Err-clause-kept : goal.returns-in-Err-clause-kept
returns-in-Err-clause-kept g c = c.hold.ensures.kept

pub returns-in-Err-clause-desks : goal.returns-in-Err-clause-desks
returns-in-Err-clause-desks g c = c.hold.ensures.desks

pub returns-in-Err-clause-untried : goal.returns-in-Err-clause-untried
returns-in-Err-clause-untried g c = c.hold.ensures.untried

pub returns-in-Err-clause-most : goal.returns-in-Err-clause-most
returns-in-Err-clause-most g c = c.hold.ensures.most

pub returns-in-Err-clause-err : goal.returns-in-Err-clause-err
returns-in-Err-clause-err g c = c.in-Err.ensures.err
