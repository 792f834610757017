use Rattle.board_rules.proofs.Histories.{legal-prefix, legal-take}
use Rattle.board_rules.proofs.laws.prefixes_of_legal_histories_are_legal.Goals as goal

pub returns : goal.returns
returns c = record { prefix = legal-prefix; first = legal-take }
