use Rattle.std.specs.Prelude.{string_bytes}
use Rattle.plan_picture.specs.Texts.{entry_text, entry_open, start_text, entry_end}
use Rattle.plan_picture.proofs.Writing.{joined}
use Rattle.plan_picture.proofs.text.push_entry.Goals as goal

pub returns : goal.returns
unfolding entry_text
returns c =
    joined c.push_entry_end.result (string_bytes c.args.out.now) (entry_open c.args.entry.now) (start_text c.args.entry.now.tour.start)
    (entry_end c.args.entry.now) (string_bytes c.push_entry_open.new.out) (string_bytes c.push_start.new.out) (string_bytes
    c.push_entry_end.new.out) c.in_ok-push_entry_open.ensures c.in_ok-push_start.ensures c.push_entry_end.ensures
