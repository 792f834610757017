use Rattle.std.proofs.Common.{◌++◌, sym, ap, ◌∙◌}
use Rattle.std.proofs.lemmas.List.{append-nil}
use Rattle.policy_core.proofs.WiderLaws.{wider_met, wider_apart}
use Rattle.policy_core.proofs.roles.push_wider.Goals as goal

pub returns-in_ok-push_closed : goal.returns-in_ok-push_closed
returns-in_ok-push_closed c s j are below =
    c.in_ok-push_closed.ensures
    ∙ ap (λ xs. c.args.all.now.items ++ xs) (wider_met c.args.order.now c.is_order.ensures s j c.args.seniors c.args.juniors c.args.roles are below (sym c.meets.ensures ∙ c.if-meets.true))

pub returns-else-meets : goal.returns-else-meets
returns-else-meets c s j are below =
    sym (append-nil c.args.all.now.items)
    ∙ ap (λ xs. c.args.all.now.items ++ xs) (sym (wider_apart c.args.order.now c.is_order.ensures s j c.args.seniors c.args.juniors c.args.roles are below (sym c.meets.ensures ∙ c.if-meets.false)))
