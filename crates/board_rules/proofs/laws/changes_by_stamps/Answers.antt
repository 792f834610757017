use Rattle.board_rules.proofs.Stamps.{changed_by_stamp, current_by_test}
use Rattle.board_rules.proofs.laws.changes_by_stamps.Goals as goal

pub returns : goal.returns
returns c = record { stamp = changed_by_stamp; current = current_by_test c.currency_by_stamps.ensures.current }
