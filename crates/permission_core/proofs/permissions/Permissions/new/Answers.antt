use Rattle.std.proofs.Common.{replicate, ◌*◌, ap, ◌∙◌}
use Rattle.limits.specs.declared.TheConstants.{MOST_ROLES}
use Rattle.permission_core.specs.declared.objects.TheConstants.{OPERATIONS}
use Rattle.permission_core.proofs.permissions.Permissions.new.Goals as goal

pub returns : goal.returns
returns c = c.in_ok-rows.ensures.items_if_clones_equal (λ y e. e) ∙ ap (replicate (OPERATIONS * MOST_ROLES)) c.new.ensures
