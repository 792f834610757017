use Rattle.std.proofs.Common.{◌≡◌, ℕ, List, sym, ap, ◌∙◌, subst}
use Rattle.std.specs.List.{each_same}
use Rattle.role_hierarchy.specs.Kept.{IsKept}
use Rattle.role_hierarchy.proofs.hierarchy.Hierarchy.copy.Goals as goal

pub returns : goal.returns
returns c =
    let same : c.in_ok-clone.field-0.items ≡ c.self.inside.pairs.items = each_same c.self.inside.pairs.items c.in_ok-clone.field-0.items c.in_ok-clone.ensures.cases.0 in
    ap (λ (pairs : List ℕ). record { roles = c.self.inside.used; pairs = pairs }) same ∙ c.self.view_is

pub invariant_of-result : goal.invariant_of-result
invariant_of-result c =
    let same : c.in_ok-clone.field-0.items ≡ c.self.inside.pairs.items = each_same c.self.inside.pairs.items c.in_ok-clone.field-0.items c.in_ok-clone.ensures.cases.0 in
    let rows : c.in_ok-clone-2.field-0.items ≡ c.self.inside.reach.items = each_same c.self.inside.reach.items c.in_ok-clone-2.field-0.items c.in_ok-clone-2.ensures.cases.0 in
    let P : List ℕ → Type 0 = λ pairs. IsKept (record { roles = c.self.inside.used; pairs = pairs }) c.self.inside.reach.items in
    let Q : List ℕ → Type 0 = λ reach. IsKept (record { roles = c.self.inside.used; pairs = c.in_ok-clone.field-0.items }) reach in
    subst Q (sym rows) (subst P (sym same) c.self.invariant)
