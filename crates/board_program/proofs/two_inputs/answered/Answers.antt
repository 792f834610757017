use Rattle.solomon_reader.specs.Instances.{view}
use Rattle.board_program.proofs.Joining.{scripted_by, ran_by, status_among}
use Rattle.board_program.proofs.two_inputs.answered.Goals as goal

pub returns-clause-status : goal.returns-clause-status
returns-clause-status g c = status_among c.run_board.result c.ended.result c.ended.ensures.status

pub returns-clause-says : goal.returns-clause-says
returns-clause-says g c = scripted_by c.run_board.result c.ended.result (view c.args.instance) (g.I.Read.remaining c.args.script.now) (g.I.Read.remaining c.run_board.new.script) (g.W.Write.contents c.args.writer.now) (g.W.Write.contents c.run_board.new.writer) _ _ c.ended.ensures.status c.ended.ensures.reported c.run_board.ensures.ok c.run_board.ensures.err

pub returns-clause-ran : goal.returns-clause-ran
returns-clause-ran g c = ran_by c.run_board.result c.ended.result (view c.args.instance) (g.I.Read.remaining c.args.script.now) (g.I.Read.remaining c.run_board.new.script) (g.W.Write.contents c.args.writer.now) (g.W.Write.contents c.run_board.new.writer) _ _ c.ended.ensures.status c.ended.ensures.reported c.run_board.ensures.ok c.run_board.ensures.err
