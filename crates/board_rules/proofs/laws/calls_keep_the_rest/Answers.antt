use Rattle.board_rules.proofs.Keeping.{denied_keeps, refused_keeps, keeps_rest}
use Rattle.board_rules.proofs.laws.calls_keep_the_rest.Goals as goal

pub returns : goal.returns
returns c = record { denied = denied_keeps; refused = refused_keeps; rest = keeps_rest }
