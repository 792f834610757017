use Rattle.std.proofs.Common.{ℕ, ◌+◌, sym, ◌∙◌, subst}
use Rattle.std.proofs.lemmas.Bool.{false≢true}
use Rattle.role_hierarchy.specs.Order.{stands}
use Rattle.role_hierarchy.specs.Rows.{Above, above_none, above_more, above_skip}
use Rattle.role_hierarchy.proofs.hierarchy.Hierarchy.seniors.Goals.{then-is_senior, else-is_senior}
use Rattle.role_hierarchy.proofs.hierarchy.Hierarchy.seniors.Goals as goal

pub loop-senior-init : goal.loop-senior-init
loop-senior-init c = above_none (stands c.args.self.now) c.args.role c.new-above.result c.new-above.ensures

pub loop-senior-preserved : goal.loop-senior-preserved
loop-senior-preserved c =
    let pair = stands c.args.self.now in
    let role = c.args.role in
    let n = c.loop-senior.senior in
    let P : ℕ → Type 0 = Above pair role (n + 1) in
    elim c.if-is_senior.branch [
      | then-is_senior w ↦ above_more pair role n c.loop-senior.above c.if-is_senior.above (w.above-is ∙ w.insert.ensures) (c.is_senior.ensures.0 w.if-is_senior.true) c.loop-senior.invariant
      | else-is_senior w ↦ subst P (sym w.above-is) (above_skip pair role n c.loop-senior.above (λ is. false≢true (sym w.if-is_senior.false ∙ c.is_senior.ensures.1 is)) c.loop-senior.invariant)
    ]
