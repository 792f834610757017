use Rattle.rbac_core.proofs.NumberLaws.{used_by_order}
use Rattle.rbac_core.proofs.numbers.session_numbers_are_used.Goals as goal

pub returns : goal.returns
returns c number there = used_by_order 0 c.args.policy.now.last c.args.policy.now.sessions c.is_policy.ensures.whole.numbers number there
