use Rattle.policy_core.specs.Opening.{opening}
use Rattle.board_rules.specs.State.{opening_state}
use Rattle.board_rules.specs.Good.{state_of}
use Rattle.board_rules.proofs.Numbers.{opening_used, from_prefix, from_opening}
use Rattle.board_rules.proofs.laws.session_numbers_rise_in_histories.Goals as goal

pub returns-clause-rise : goal.returns-clause-rise
returns-clause-rise c h k =
    let law = c.session_numbers_rise.ensures in
    from_prefix law.step law.next law.same law.on (opening_state h.opening.setting) h.entries k

pub returns-clause-used : goal.returns-clause-used
returns-clause-used c h =
    let law = c.session_numbers_rise.ensures in
    let s = h.opening.setting in
    law.used (opening s.customers s.vehicles) (state_of h).policy (opening_used s.customers s.vehicles) (from_opening law.step law.next law.same law.on s h.entries)
