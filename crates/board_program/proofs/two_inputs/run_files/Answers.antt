use Rattle.std.proofs.Common.{Ok}
use Rattle.solomon_reader.specs.Instances.{view}
use Rattle.solomon_reader.specs.Reading.{read_of}
use Rattle.board_program.proofs.Joining.{files_ran, files_unread, unread_ran}
use Rattle.board_program.proofs.two_inputs.run_files.Goals as goal

pub returns-in-Ok-open-clause-files : goal.returns-in-Ok-open-clause-files
returns-in-Ok-open-clause-files g c = files_ran _ _ _ (Ok (view c.in-Ok-read.judged)) _ c.answered.result c.in-Ok-read.ensures.exact c.answered.ensures.ran

pub returns-in-Err-read-clause-files : goal.returns-in-Err-read-clause-files
returns-in-Err-read-clause-files g c =
    files_unread _ _ c.as_slice.result.now _ c.stopped.result (unread_ran c.in-Err-read.fault c.from.result (read_of c.as_slice.result.now) _ _ _ c.stopped.result c.from.ensures c.in-Err-read.ensures.exact c.stopped.ensures.status c.stopped.ensures.reported)
