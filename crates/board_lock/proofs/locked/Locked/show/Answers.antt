use Rattle.std.proofs.Common.{◌≡◌, List, ap, ◌∙◌, subst}
use mathlib.Core.List.{IsPrefix}
use Rattle.board_rules.specs.declared.call.Entry.{Entry}
use Rattle.board_core.specs.Kept.{CoreState}
use Rattle.board_lock.specs.Commits.{Legal}
use Rattle.board_lock.proofs.Results.{where_true}
use Rattle.board_lock.proofs.locked.Locked.show.Goals as goal

pub returns-else-not-show-clause-legal : goal.returns-else-not-show-clause-legal
returns-else-not-show-clause-legal g c =
    let seen : c.show.new.eye.seen ≡ c.args.self.now.journal =
    where_true c.show.result _ c.show.ensures.seen c.if-not-show.false ∙ (c.self.invariant.shown_are ∙ ap (λ (k : CoreState). k.journal) c.self.view_is) in
    subst (λ (es : List Entry). Legal g.N.Naming.opening es) seen c.show.ensures.legal

pub returns-else-not-show-clause-seen : goal.returns-else-not-show-clause-seen
returns-else-not-show-clause-seen g c =
    where_true c.show.result _ c.show.ensures.seen c.if-not-show.false ∙ (c.self.invariant.shown_are ∙ ap (λ (k : CoreState). k.journal) c.self.view_is)

pub returns-else-not-show-clause-grows : goal.returns-else-not-show-clause-grows
returns-else-not-show-clause-grows g c =
    let seen : c.show.new.eye.seen ≡ c.args.self.now.journal =
    where_true c.show.result _ c.show.ensures.seen c.if-not-show.false ∙ (c.self.invariant.shown_are ∙ ap (λ (k : CoreState). k.journal) c.self.view_is) in
    subst (IsPrefix c.args.eye.now.seen) seen c.show.ensures.grows
