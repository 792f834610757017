use Rattle.board_lines.proofs.Commands.{lines_are_commands}
use Rattle.board_lines.proofs.laws.lines_are_commands.Goals as goal

pub returns : goal.returns
returns c = lines_are_commands
