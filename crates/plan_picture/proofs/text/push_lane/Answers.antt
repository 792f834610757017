use Rattle.std.specs.Prelude.{string_bytes}
use Rattle.plan_picture.specs.Texts.{lane_text, lane_open, stop_note, lane_end}
use Rattle.plan_picture.proofs.Writing.{joined}
use Rattle.plan_picture.proofs.text.push_lane.Goals as goal

pub returns : goal.returns
unfolding lane_text
returns c =
    joined c.push_lane_end.result (string_bytes c.args.out.now) (lane_open c.args.lane.now) (stop_note c.args.lane.now.visit)
    (lane_end c.args.lane.now) (string_bytes c.push_lane_open.new.out) (string_bytes c.push_stop_note.new.out) (string_bytes
    c.push_lane_end.new.out) c.in_ok-push_lane_open.ensures c.in_ok-push_stop_note.ensures c.push_lane_end.ensures
