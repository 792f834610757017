use Rattle.std.proofs.Common.{arith}
use Rattle.dimension_core.specs.Setup.{setting}
use Rattle.move_judge.proofs.allowed.first_free.Goals as goal

pub overflow_add-result : goal.overflow_add-result
overflow_add-result g c =
    let few = c.customers-customers.ensures.sound.few_customers in
    let short = c.laws_below.ensures.known.short (setting c.args.setup.now).customers c.args.view.now.routes c.args.v c.requires.view.plan in
    let fits = c.requires.view.fitting c.args.v c.requires.v.0 c.requires.v.1 in
    let front = c.front.ensures in
    omega arith

pub returns-clause-high : goal.returns-clause-high
returns-clause-high g c =
    let fits = c.requires.view.fitting c.args.v c.requires.v.0 c.requires.v.1 in
    let front = c.front.ensures in
    omega arith
