use Rattle.std.proofs.Common.{refl, subst}
use Rattle.board_state.specs.declared.change.Change.{Change}
use Rattle.board_state.specs.Changes.{WillCompile}
use Rattle.board_state.proofs.Putting.{put_nothing, put_routes}
use Rattle.board_state.proofs.state.State.put.Goals as goal

pub returns-in-Command-clause-compiled : goal.returns-in-Command-clause-compiled
returns-in-Command-clause-compiled c p will =
    c.put.ensures.compiled p (subst (λ (x : Change). WillCompile c.args.self.now.tables x p) c.in-Command.is will)

pub returns-in-Nothing : goal.returns-in-Nothing
returns-in-Nothing c =
    let p = put_nothing c.args.self.now _ c.args.change refl c.in-Nothing.is in
    record { policy = p.policy; tried = p.tried; compiled = p.compiled; customers = p.customers; vehicles = p.vehicles; plan = p.plan; pins = p.pins; ranges = p.ranges }

pub returns-in-Replace : goal.returns-in-Replace
returns-in-Replace c =
    let p = put_routes c.args.self.now c.replace.new.self c.args.change c.in-Replace.commit c.in-Replace.is c.replace.ensures.policy c.replace.ensures.tables
    c.replace.ensures.plan c.replace.ensures.pins c.replace.ensures.cache in
    record { policy = p.policy; tried = p.tried; compiled = p.compiled; customers = p.customers; vehicles = p.vehicles; plan = p.plan; pins = p.pins; ranges = p.ranges }
