use Rattle.std.proofs.Common.{◌≡◌, ℕ, List, sym, ◌∙◌, subst}
use Rattle.std.specs.List.{AllZip, each_same}
use Rattle.std.proofs.lemmas.List.Elements.{same_from_all_zip}
use Rattle.separation_core.specs.declared.sets.Limit.{Limit}
use Rattle.separation_core.specs.Groups.{Groups}
use Rattle.separation_core.specs.Index.{IsKept}
use Rattle.separation_core.proofs.sets.Sets.copy.Goals as goal

same_pairs : (groups copies : Groups) → AllZip (λ (p q : List ℕ × Limit). (q.0 ≡ p.0) × (q.1 ≡ p.1)) groups copies → copies ≡ groups
same_pairs groups copies same = same_from_all_zip (λ (p q : List ℕ × Limit). (q.0 ≡ p.0) × (q.1 ≡ p.1)) groups copies same (λ p q e. λ i. (e.0 i, e.1 i))

pub returns : goal.returns
returns c = same_pairs c.self.inside.groups.entries c.in_ok-clone.field-0.entries c.in_ok-clone.ensures.cases ∙ c.self.view_is

pub invariant_of-result : goal.invariant_of-result
invariant_of-result c =
    let groups = same_pairs c.self.inside.groups.entries c.in_ok-clone.field-0.entries c.in_ok-clone.ensures.cases in
    let rows = each_same c.self.inside.rows.items c.in_ok-clone-2.field-0.items c.in_ok-clone-2.ensures.cases.0 in
    subst (IsKept c.in_ok-clone.field-0.entries) (sym rows) (subst (λ (g : Groups). IsKept g c.self.inside.rows.items) (sym groups) c.self.invariant)
