use Rattle.std.proofs.Common.{◌≡◌, ℕ, Bool, true, false, ◌&&◌, sym, ap, ◌∙◌, arith}
use Rattle.std.proofs.lemmas.Bool.{and_from, and_left}
use Rattle.role_hierarchy.specs.Roles.{has}
use Rattle.policy_core.specs.State.{PolicyState}
use Rattle.policy_core.specs.Access.{some_below, is_reached, reaches, row_of}
use Rattle.policy_core.specs.AccessLaws.{some_below-none, some_below-next, some_below-past, some_below-at}
use Rattle.policy_core.proofs.policy.Policy.reaches.Goals as goal

pub loop-slot-init : goal.loop-slot-init
loop-slot-init c = (omega arith, some_below-none (is_reached c.args.self.now c.below-below.result c.args.operation c.args.number))

pub loop-slot-preserved : goal.loop-slot-preserved
loop-slot-preserved c =
    let p : PolicyState = c.args.self.now in
    let below = c.below-below.result in
    let slot = c.in-Some.slot in
    let test : ℕ → Bool = is_reached p below c.args.operation c.args.number in
    let here : some_below test slot ≡ false = some_below-past test c.loop-slot.from slot (λ q low high. and_left _ _ (c.in-Some.ensures.least q low high)) c.loop-slot.invariant.1 in
    let none : test slot ≡ false =
    ap (λ t. t && has (row_of p slot c.args.operation) c.args.number) c.in-Some.ensures.member
    ∙ ap (λ row. has row c.args.number) (sym c.permissions.ensures) ∙ sym c.contains.ensures ∙ c.if-contains.false in
    (omega arith, some_below-next test slot here none)

pub returns-then-contains : goal.returns-then-contains
unfolding reaches
returns-then-contains c =
    let p : PolicyState = c.args.self.now in
    let below = c.below-below.result in
    let slot = c.in-Some.slot in
    let test : ℕ → Bool = is_reached p below c.args.operation c.args.number in
    let may : has (row_of p slot c.args.operation) c.args.number ≡ true = ap (λ row. has row c.args.number) (sym c.permissions.ensures) ∙ sym c.contains.ensures ∙ c.if-contains.true in
    sym (some_below-at test slot 256 (omega arith) (and_from _ _ c.in-Some.ensures.member may))
    ∙ ap (λ below. some_below (is_reached p below c.args.operation c.args.number) 256) c.below-below.ensures

pub returns : goal.returns
unfolding reaches
returns c =
    let p : PolicyState = c.args.self.now in
    let test : ℕ → Bool = is_reached p c.below-below.result c.args.operation c.args.number in
    sym (some_below-past test c.loop-slot.from 256 (λ q low high. and_left _ _ (c.in_default.ensures.none q low)) c.loop-slot.invariant.1)
    ∙ ap (λ below. some_below (is_reached p below c.args.operation c.args.number) 256) c.below-below.ensures
