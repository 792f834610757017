use Rattle.std.proofs.Common.{◌∙◌, ap, arith, sym}
use Rattle.plan_core.specs.Plan.{changes_of}
use Rattle.dimension_core.specs.Setup.{setting}
use Rattle.board_text.proofs.Verdict.{bound_says, known_by, none_out, noted}
use Rattle.board_text.proofs.note.bound_note.Goals as goal

pub returns-then-not-is_possible : goal.returns-then-not-is_possible
returns-then-not-is_possible g c = λ b base same verdict.
    absurd (bound_says (setting c.args.setup.now) c.args.plan.now b base c.args.mv.now c.args.vehicle c.args.dimension c.requires.customers same verdict
    (λ possible low high. let never = c.if-not-is_possible.ensures ∙ possible in cc))

pub returns-then-dimension-eq0 : goal.returns-then-dimension-eq0
returns-then-dimension-eq0 g c = λ b base same verdict.
    absurd (bound_says (setting c.args.setup.now) c.args.plan.now b base c.args.mv.now c.args.vehicle c.args.dimension c.requires.customers same verdict
    (λ possible low high. omega (arith, low, c.if-dimension-eq0.true)))

pub returns-then-dimension-count : goal.returns-then-dimension-count
returns-then-dimension-count g c = λ b base same verdict.
    absurd (bound_says (setting c.args.setup.now) c.args.plan.now b base c.args.mv.now c.args.vehicle c.args.dimension c.requires.customers same verdict
    (λ possible low high. let above = rw c.dimensions-count.ensures.value at c.if-dimension-count.true in omega (arith, above, high)))

pub returns-in-Some : goal.returns-in-Some
returns-in-Some g c = λ b base same verdict.
    noted (setting c.args.setup.now) c.args.plan.now (changes_of c.as_slice.result.now) c.args.mv.now c.args.vehicle c.args.dimension c.in-Some.excess c.excess_note.result
    (ap (λ xs. changes_of xs) c.as_slice.ensures.value ∙ c.in_ok-changes.ensures) c.excess_note.ensures (rw c.in-Some.is at c.first_out.ensures)

pub returns : goal.returns
returns g c = λ b base same verdict.
    absurd (none_out (setting c.args.setup.now) c.args.plan.now (changes_of c.as_slice.result.now) b base c.args.mv.now c.args.vehicle c.args.dimension
    (ap (λ xs. changes_of xs) c.as_slice.ensures.value ∙ c.in_ok-changes.ensures) (rw c.in-None.is at c.first_out.ensures) same verdict)

pub routes-requires : goal.routes-requires
routes-requires g c = sym c.is_possible.ensures ∙ c.if-not-is_possible.false

pub first_out-requires-clause-known : goal.first_out-requires-clause-known
first_out-requires-clause-known g c =
    known_by (setting c.args.setup.now) c.args.plan.now (changes_of c.as_slice.result.now) c.args.mv.now c.requires.customers c.requires.vehicles c.customers-sound.ensures.sound (sym c.is_possible.ensures ∙ c.if-not-is_possible.false)
    (ap (λ xs. changes_of xs) c.as_slice.ensures.value ∙ c.in_ok-changes.ensures) (c.plans_are_judged_by_new_routes.ensures.known (setting c.args.setup.now) c.args.plan.now.routes c.args.mv.now)

pub first_out-requires-clause-first : goal.first_out-requires-clause-first
first_out-requires-clause-first g c = omega (arith, c.if-dimension-eq0.false)

pub first_out-requires-clause-last : goal.first_out-requires-clause-last
first_out-requires-clause-last g c = rw c.dimensions-count.ensures.value at c.if-dimension-count.false
