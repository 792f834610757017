use Rattle.board_rules.specs.Good.{state_of}
use Rattle.board_rules.proofs.Histories.{good_end}
use Rattle.board_rules.proofs.Replies.{same_reply}
use Rattle.board_rules.proofs.Existing.{a_reply}
use Rattle.board_rules.proofs.laws.replies_are_determined.Goals as goal

pub returns : goal.returns
returns c =
    let law = c.laws_below.ensures in
    record {
      one = λ h call reply other legal right also.
          same_reply law c.first_out_is_alone.ensures.one h.opening.setting (state_of h) (good_end law h.opening h.entries legal) call reply other right also;
      some = λ h call legal. a_reply law c.spans_go_on.ensures h.opening.setting (state_of h) (good_end law h.opening h.entries legal) call;
    }
