use Rattle.std.proofs.Common.{arith, ap, length, ◌∷◌}
use Rattle.std.specs.Option.{option_to_list}
use Rattle.board_state.proofs.WorkLaws.{within, both_within, if_none}
use Rattle.board_state.proofs.state.State.first_barred_vehicle.Goals as goal

pub returns-then-not-may_by-clause-work : goal.returns-then-not-may_by-clause-work
returns-then-not-may_by-clause-work c = within _ _ _ _ _ _ _ _ _ _ c.may_by.ensures.work (omega arith) (omega arith) (omega arith) (omega arith)

pub returns-in_err-vehicle-clause-work : goal.returns-in_err-vehicle-clause-work
returns-in_err-vehicle-clause-work c = within _ _ _ _ _ _ _ _ _ _ c.may_by.ensures.work (omega arith) (omega arith) (omega arith) (omega arith)

pub returns-in_err-vehicle-clause-whole : goal.returns-in_err-vehicle-clause-whole
returns-in_err-vehicle-clause-whole c =
    let one = ap (λ o. length (c.args.named.0 ∷ option_to_list o)) c.in_err-vehicle.was in
    if_none _ _ (within _ _ _ _ _ _ _ _ _ _ c.may_by.ensures.work (omega arith) (omega arith) (omega (arith, one)) (omega (arith, one)))

pub returns-then-not-may_by-2-clause-work : goal.returns-then-not-may_by-2-clause-work
returns-then-not-may_by-2-clause-work c =
    let two = ap (λ o. length (c.args.named.0 ∷ option_to_list o)) c.in_ok-vehicle.was in
    both_within _ _ _ _ _ _ _ _ _ _ _ _ _ _ _ c.may_by.ensures.work c.may_by-2.ensures.work (omega arith) (omega arith) (omega arith) (omega (arith, two))

pub returns-clause-work : goal.returns-clause-work
returns-clause-work c =
    let two = ap (λ o. length (c.args.named.0 ∷ option_to_list o)) c.in_ok-vehicle.was in
    both_within _ _ _ _ _ _ _ _ _ _ _ _ _ _ _ c.may_by.ensures.work c.may_by-2.ensures.work (omega arith) (omega arith) (omega arith) (omega (arith, two))

pub returns-clause-whole : goal.returns-clause-whole
returns-clause-whole c =
    let two = ap (λ o. length (c.args.named.0 ∷ option_to_list o)) c.in_ok-vehicle.was in
    both_within _ _ _ _ _ _ _ _ _ _ _ _ _ _ _ c.may_by.ensures.work c.may_by-2.ensures.work (omega arith) (omega arith) (omega (arith, two)) (omega (arith, two))
