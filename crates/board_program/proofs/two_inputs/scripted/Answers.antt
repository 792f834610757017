use Rattle.std.proofs.Common.{Ok}
use Rattle.solomon_reader.specs.Instances.{view}
use Rattle.solomon_reader.specs.Reading.{read_of}
use Rattle.board_program.proofs.Joining.{script_known, script_ran, unread_known, unread_ran}
use Rattle.board_program.proofs.two_inputs.scripted.Goals as goal

pub returns-in-Ok-clause-scripted : goal.returns-in-Ok-clause-scripted
returns-in-Ok-clause-scripted g c = script_known _ (Ok (view c.in-Ok.instance)) _ _ c.answered.result c.in-Ok.ensures.exact c.answered.ensures.says

pub returns-in-Ok-clause-ran : goal.returns-in-Ok-clause-ran
returns-in-Ok-clause-ran g c = script_ran _ (Ok (view c.in-Ok.instance)) _ c.answered.result c.in-Ok.ensures.exact c.answered.ensures.ran

pub returns-in-Err-clause-scripted : goal.returns-in-Err-clause-scripted
returns-in-Err-clause-scripted g c = unread_known c.in-Err.fault c.from.result (read_of c.args.instance.now) _ _ _ _ c.stopped.result c.from.ensures c.in-Err.ensures.exact c.stopped.ensures.status c.stopped.ensures.reported

pub returns-in-Err-clause-ran : goal.returns-in-Err-clause-ran
returns-in-Err-clause-ran g c = unread_ran c.in-Err.fault c.from.result (read_of c.args.instance.now) _ _ _ c.stopped.result c.from.ensures c.in-Err.ensures.exact c.stopped.ensures.status c.stopped.ensures.reported
