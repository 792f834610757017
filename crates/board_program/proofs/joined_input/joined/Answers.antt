use Rattle.board_program.proofs.Joining.{joined_by, joined_ran, reported_by, status_among}
use Rattle.board_program.proofs.joined_input.joined.Goals as goal

pub returns-clause-status : goal.returns-clause-status
returns-clause-status g c = status_among c.run_joined.result c.ended.result c.ended.ensures.status

pub returns-clause-joined : goal.returns-clause-joined
returns-clause-joined g c = joined_by c.run_joined.result c.ended.result (g.I.Read.remaining c.args.reader.now) (g.W.Write.contents c.args.writer.now) (g.W.Write.contents c.run_joined.new.writer) _ _ c.ended.ensures.status c.ended.ensures.reported c.run_joined.ensures.known

pub returns-clause-ran : goal.returns-clause-ran
returns-clause-ran g c = joined_ran c.run_joined.result c.ended.result (g.W.Write.contents c.args.writer.now) (g.W.Write.contents c.run_joined.new.writer) _ _ c.ended.ensures.status c.ended.ensures.reported c.run_joined.ensures.ran

pub returns-clause-reported : goal.returns-clause-reported
returns-clause-reported g c = reported_by c.run_joined.result c.ended.result _ _ c.ended.ensures.status c.ended.ensures.reported
