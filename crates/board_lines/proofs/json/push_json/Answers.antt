use Rattle.board_lines.proofs.Pieces.{json_is}
use Rattle.board_lines.proofs.json.push_json.Goals as goal

pub returns-clause-ok : goal.returns-clause-ok
returns-clause-ok c = rw (json_is c.args.rows.now) c.push_pieces.ensures.ok

pub returns-clause-left : goal.returns-clause-left
returns-clause-left c = rw (json_is c.args.rows.now) c.push_pieces.ensures.left
