use Rattle.std.proofs.Common.{ap, ◌∙◌}
use Rattle.plan_core.specs.Plan.{routes_of}
use Rattle.published_board.proofs.shown.Cells.of.Goals as goal

pub returns-clause-rest : goal.returns-clause-rest
returns-clause-rest c = (ap (λ v. v.pinned) c.view.view_is, ap (λ v. v.frozen) c.view.view_is, ap (λ v. v.version) c.view.view_is)

pub lanes-requires-clause-routes : goal.lanes-requires-clause-routes
lanes-requires-clause-routes c = ap routes_of c.as_slice.ensures.value ∙ (ap (λ v. v.routes) c.view.view_is ∙ c.requires.routes)
