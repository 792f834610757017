use Rattle.board_rules.proofs.Histories.{good_end, good_at, few_commits}
use Rattle.board_rules.proofs.laws.legal_histories_leave_good_states.Goals as goal

pub returns : goal.returns
returns c =
    let law = c.laws_below.ensures in
    record {
      good = λ h legal. good_end law h.opening h.entries legal;
      each = λ h k legal few. good_at law h.opening h.entries legal k few;
      commits = λ h legal. few_commits law h.opening h.entries legal;
    }
