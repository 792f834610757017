use Rattle.board_rules.specs.Good.{state_of}
use Rattle.policy_core.specs.AccessLaws.{access_by_test}
use Rattle.board_rules.proofs.Settled.{orderly_state}
use Rattle.board_rules.proofs.laws.histories_settle_policies.Goals as goal

pub returns : goal.returns
returns c = record {
  customers = λ h. (orderly_state h.opening.setting h.entries).settled.customers_are;
  vehicles = λ h. (orderly_state h.opening.setting h.entries).settled.vehicles_are;
  access = λ h session operation object. access_by_test (state_of h).policy (orderly_state h.opening.setting h.entries).settled.order session operation object;
}
