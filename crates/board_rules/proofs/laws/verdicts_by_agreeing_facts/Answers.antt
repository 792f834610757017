use Rattle.board_rules.proofs.Agreeing.{verdict_same}
use Rattle.board_rules.proofs.laws.verdicts_by_agreeing_facts.Goals as goal

pub returns : goal.returns
returns c s b d base mv verdict agree h = verdict_same s b d base mv agree verdict h
