use Rattle.plan_sums.proofs.sums.push_total.Goals as goal

pub returns : goal.returns
returns c = rw (← c.open_count-open.ensures.value, ← c.cost.ensures) c.push_filled.ensures
