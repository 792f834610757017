use Rattle.std.proofs.Common.{eqb, sym, ap, ◌∙◌}
use Rattle.permission_table.specs.Bits.{SessionAccess}
use Rattle.permission_table.proofs.RightsLaws.{followed_same, followed_other}
use Rattle.permission_table.proofs.row.SessionRows.follow.Goals as goal

pub returns-then-eq : goal.returns-then-eq
returns-then-eq c =
    followed_same c.args.policy.now 0 c.args.self.now c.args.roles
    (ap (λ (a : SessionAccess). eqb c.args.roles a.reach) (sym c.self.view_is) ∙ sym c.eq.ensures ∙ c.if-eq.true)

pub returns : goal.returns
returns c =
    c.make.ensures
    ∙ followed_other c.args.policy.now 0 c.args.self.now c.args.roles
    (ap (λ (a : SessionAccess). eqb c.args.roles a.reach) (sym c.self.view_is) ∙ sym c.eq.ensures ∙ c.if-eq.false)
