use Rattle.std.specs.Prelude.{string_bytes, codes}
use Rattle.plan_marks.specs.Names.{escaped}
use Rattle.plan_picture.specs.Texts.{heading_text, sums_line}
use Rattle.plan_picture.proofs.Writing.{joined}
use Rattle.plan_picture.proofs.heading.push_heading.Goals as goal

pub returns : goal.returns
unfolding heading_text
returns c =
    joined c.push_sums.result (string_bytes c.args.out.now) (codes "<text class=\"k\" x=\"200\" y=\"420\">") (escaped c.args.name.now)
    (sums_line c.args.planned c.args.unplanned c.args.cost) (string_bytes c.push_text.new.out) (string_bytes c.push_escaped.new.out)
    (string_bytes c.push_sums.new.out) c.in_ok-push_text.ensures c.in_ok-push_escaped.ensures c.push_sums.ensures
