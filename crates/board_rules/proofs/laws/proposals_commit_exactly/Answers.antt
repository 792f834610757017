use Rattle.board_rules.specs.Good.{state_of}
use Rattle.policy_core.specs.AccessLaws.{access_by_test}
use Rattle.board_rules.proofs.Headline.{commits_exactly, denies_exactly, committed_or_denied}
use Rattle.board_rules.proofs.Settled.{orderly_state}
use Rattle.board_rules.proofs.laws.proposals_commit_exactly.Goals as goal

pub returns : goal.returns
returns c = record {
  committed = λ h session base n mv legal.
      let access = access_by_test (state_of h).policy (orderly_state h.opening.setting h.entries).settled.order session in
      let same = commits_exactly c.changes_by_stamps.ensures.current h.opening.setting (state_of h) session base mv access in
      ((λ right. (right.0, same.0 right.1)), (λ may. (may.0, same.1 may.1)));
  denied = λ h session base mv denial legal.
      let access = access_by_test (state_of h).policy (orderly_state h.opening.setting h.entries).settled.order session in
      denies_exactly c.changes_by_stamps.ensures.current h.opening.setting (state_of h) session base mv access denial;
  only = committed_or_denied;
}
