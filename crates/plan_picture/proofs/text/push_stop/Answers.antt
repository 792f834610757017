use Rattle.std.specs.Prelude.{string_bytes, codes}
use Rattle.plan_picture.specs.Texts.{stop_text, stop_open, stop_note}
use Rattle.plan_picture.proofs.Writing.{joined}
use Rattle.plan_picture.proofs.text.push_stop.Goals as goal

pub returns : goal.returns
unfolding stop_text
returns c =
    joined c.push_text.result (string_bytes c.args.out.now) (stop_open c.args.spot.now) (stop_note c.args.spot.now.visit)
    (codes "</title></circle>\n") (string_bytes c.push_stop_open.new.out) (string_bytes c.push_stop_note.new.out) (string_bytes
    c.push_text.new.out) c.in_ok-push_stop_open.ensures c.in_ok-push_stop_note.ensures c.push_text.ensures
