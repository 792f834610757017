use Rattle.std.specs.Prelude.{string_bytes, codes}
use Rattle.plan_marks.specs.Names.{escaped}
use Rattle.plan_picture.specs.Texts.{opening_text, size_text}
use Rattle.plan_picture.proofs.Writing.{joined}
use Rattle.plan_picture.proofs.heading.push_opening.Goals as goal

pub returns : goal.returns
unfolding opening_text
returns c =
    joined c.push_text.result (string_bytes c.args.out.now) (size_text c.args.layout.now) (escaped c.args.name.now) (codes "</title>\n")
    (string_bytes c.push_size.new.out) (string_bytes c.push_escaped.new.out) (string_bytes c.push_text.new.out) c.in_ok-push_size.ensures
    c.in_ok-push_escaped.ensures c.push_text.ensures
