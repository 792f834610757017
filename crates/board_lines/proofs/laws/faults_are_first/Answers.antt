use Rattle.board_lines.proofs.Faults.{faults_are_first}
use Rattle.board_lines.proofs.laws.faults_are_first.Goals as goal

pub returns : goal.returns
returns c = faults_are_first
