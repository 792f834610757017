use Rattle.board_rules.proofs.Rows.{same_listing}
use Rattle.board_rules.proofs.laws.listings_are_determined.Goals as goal

pub returns : goal.returns
returns c = same_listing
