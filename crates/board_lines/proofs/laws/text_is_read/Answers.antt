use Rattle.board_lines.proofs.Reread.{text_is_read}
use Rattle.board_lines.proofs.laws.text_is_read.Goals as goal

pub returns : goal.returns
returns c = text_is_read
