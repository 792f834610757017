use Rattle.board_rules.proofs.Parts.{barred, refused, done}
use Rattle.board_rules.proofs.laws.commands_by_parts.Goals as goal

pub returns : goal.returns
returns c = record { barred = barred; refused = refused; done = done }
