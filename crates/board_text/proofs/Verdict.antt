-- What the denial of a move by a bound says.
use Rattle.std.proofs.Common.{◌≡◌, ℕ, ◌≤◌, arith, refl, sym, subst, List, [], ◌∷◌, length}
use Rattle.std.specs.Prelude.{Bool, true, false, Some, None, if◌then◌else◌}
use Rattle.dimension_core.specs.Feasible.{FitsAll}
use Rattle.dimension_core.specs.NewRoutes.{AllKnown, Changes, IsOut}
use Rattle.dimension_core.specs.Setting.{Setting}
use Rattle.denial_facts.specs.declared.excess.Excess.{Excess}
use Rattle.denial_facts.specs.Excesses.{IsOutBy}
use Rattle.plan_core.specs.Plan.{IsPlan, PlanState}
use Rattle.move_core.specs.declared.moves.Move.{Move}
use Rattle.move_core.specs.Moves.{changes_by, effect, is_possible}
use Rattle.board_rules.specs.declared.reply.Denial.TheVariants as denials
use Rattle.board_rules.specs.Rules.{Basis, IsVerdictBy}
use Rattle.board_rules.specs.RuleLaws.{effect_by_pins}
use Rattle.board_text.specs.declared.note.Note.{Note}
use Rattle.board_text.specs.Notes.{IsBoundNote, excess_note}

by_test : (X : Type 0) (x : X) (p : Bool) → (if p then Some x else None) ≡ Some x → p ≡ true
by_test X x true e = refl
by_test X x false e = grind arith

out_range : (s : Setting) (changes : Changes) (v d : ℕ) → IsOut s changes v d → (1 ≤ d → d ≤ length s.dimensions → ⊥) → ⊥
out_range s [] v d o stuck = o
out_range s (c ∷ cs) v d o stuck =
    let misfit : FitsAll s c.0 c.1 → ⊥ = λ f. out_range s cs v d (o.1 f) stuck in
    let q = o.0 misfit in
    stuck q.1.low q.1.high

-- the move has an effect, and the dimension is there
pub bound_says : (s : Setting) (plan : PlanState) (b : Basis) (base : ℕ) (mv : Move) (v d : ℕ) → plan.customers ≡ s.customers → b.routes ≡ plan.routes
    → IsVerdictBy s b base mv (Some (denials.Bound v d)) → (is_possible plan.customers plan.routes mv ≡ true → 1 ≤ d → d ≤ length s.dimensions → ⊥) → ⊥
bound_says s plan b base mv v d sized same verdict stuck =
    let test = by_test Changes (changes_by b.routes mv) (is_possible s.customers b.routes mv) (effect_by_pins s b base mv verdict.0).1 in
    let there = subst (λ (routes : List (List ℕ)). is_possible s.customers routes mv ≡ true) same test in
    let possible = subst (λ (n : ℕ). is_possible n plan.routes mv ≡ true) (sym sized) there in
    out_range s (changes_by b.routes mv) v d verdict.1 (λ low high. stuck possible low high)

-- a new route is out of bounds
bound_out : (s : Setting) (plan : PlanState) (b : Basis) (base : ℕ) (mv : Move) (v d : ℕ) → b.routes ≡ plan.routes
    → IsVerdictBy s b base mv (Some (denials.Bound v d)) → IsOut s (changes_by plan.routes mv) v d
bound_out s plan b base mv v d same verdict = subst (λ (routes : List (List ℕ)). IsOut s (changes_by routes mv) v d) same verdict.1

-- by how much one of the changes that were found is out of bounds, said of those of the move
pub noted : (s : Setting) (plan : PlanState) (found : Changes) (mv : Move) (v d : ℕ) (excess : Excess) (note : Note) → found ≡ changes_by plan.routes mv
    → note ≡ excess_note v excess → IsOutBy s found v d excess → IsBoundNote s plan mv v d note
noted s plan found mv v d excess note same e out = (excess, e, subst (λ (changes : Changes). IsOutBy s changes v d excess) same out)

-- none of the changes that were found is out of bounds, but one of those of the move is
pub none_out : (s : Setting) (plan : PlanState) (found : Changes) (b : Basis) (base : ℕ) (mv : Move) (v d : ℕ) → found ≡ changes_by plan.routes mv → (IsOut s found v d → ⊥)
    → b.routes ≡ plan.routes → IsVerdictBy s b base mv (Some (denials.Bound v d)) → ⊥
none_out s plan found b base mv v d e none same verdict = none (subst (λ (changes : Changes). IsOut s changes v d) (sym e) (bound_out s plan b base mv v d same verdict))

-- the changes that were found are of vehicles and customers that are known
pub known_by : (s : Setting) (plan : PlanState) (found : Changes) (mv : Move) → plan.customers ≡ s.customers → length plan.routes ≡ s.vehicles → IsPlan plan.customers plan.routes → is_possible plan.customers plan.routes mv ≡ true → found ≡ changes_by plan.routes mv
    → (length plan.routes ≡ s.vehicles → IsPlan s.customers plan.routes → effect s.customers plan.routes mv ≡ Some (changes_by plan.routes mv) → AllKnown s (changes_by plan.routes mv)) → AllKnown s found
known_by s plan found mv sized many sound possible same law =
    let there = subst (λ (n : ℕ). is_possible n plan.routes mv ≡ true) sized possible in
    subst (λ (changes : Changes). AllKnown s changes) (sym same) (law many (subst (λ (n : ℕ). IsPlan n plan.routes) sized sound) (rw there refl))
