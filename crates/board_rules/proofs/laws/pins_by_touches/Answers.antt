use Rattle.board_rules.proofs.Touching.{allow_by_touched, first_by_touched}
use Rattle.board_rules.proofs.laws.pins_by_touches.Goals as goal

pub returns : goal.returns
returns c = record {
  allow = λ pins free others touched answers are pass all. allow_by_touched pins free others touched answers are pass all;
  first = λ pins free others touched answers t are h. first_by_touched pins free others touched answers are t h;
}
