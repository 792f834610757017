use Rattle.std.proofs.Common.{◌≡◌, get_or, sym, ap, ◌∙◌, subst}
use Rattle.role_hierarchy.specs.Roles.{has}
use Rattle.role_hierarchy.specs.Reach.{Closes}
use Rattle.role_hierarchy.specs.Order.{Order, stands}
use Rattle.std.proofs.lemmas.List.{get_or_default}
use Rattle.role_hierarchy.proofs.OrderLaws.{in_all}
use Rattle.role_hierarchy.proofs.hierarchy.Hierarchy.is_senior.Goals as goal

pub returns : goal.returns
returns c =
    let rows = c.self.inside.reach.items in
    let closes : Closes (stands c.args.self.now) rows = subst (λ (o : Order). Closes (stands o) rows) c.self.view_is c.self.invariant.closed in
    let here = closes c.args.a c.args.b c.ranges.a.fits in
    let is : c.contains.result ≡ has (get_or rows c.args.a 0) c.args.b = c.contains.ensures ∙ ap (λ r. has r c.args.b) (c.index.ensures ∙ get_or_default rows c.args.a _ 0 (in_all _ c.args.a c.self.invariant.rows c.ranges.a.fits)) in
    ((λ h. here.0 (sym is ∙ h)), (λ h. is ∙ here.1 h))
