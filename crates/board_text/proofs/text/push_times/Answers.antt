use Rattle.board_text.proofs.text.push_times.Goals as goal

pub returns : goal.returns
returns c = rw (← c.saturating_sub.ensures) c.write.ensures.bytes
