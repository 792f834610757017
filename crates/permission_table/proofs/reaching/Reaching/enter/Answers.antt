use Rattle.std.proofs.Common.{subst, ◌≡◌, ℕ, ◌*◌, ◌/◌, ◌%◌, ◌<◌, ◌+◌, List, length, set, ap, sym, ◌∙◌, arith, ◌&&◌, ◌||◌, eqb, length-set}
use Rattle.std.specs.Prelude.{nat_lt}
use Rattle.std.proofs.lemmas.List.{get_or_default}
use Rattle.role_hierarchy.specs.Roles.{has, with_role}
use Rattle.permission_table.specs.Reaching.{is_marked}
use Rattle.permission_table.proofs.ReachLaws.{index, inside, entered, member_next, member_none, enter_more}
use Rattle.permission_table.proofs.reaching.Reaching.enter.Goals as goal

pub loop-role-preserved : goal.loop-role-preserved
loop-role-preserved c =
    let sets : List ℕ = c.loop-role.self-inside.sets.items in
    let r = c.in-Some.role in
    let place = c.args.place in
    let long : length sets ≡ length c.self.inside.sets.items = c.loop-role.invariant.places in
    let whole : length sets % 256 ≡ 0 = ap (λ n. n % 256) long ∙ c.self.invariant in
    let there : place < length sets = omega (arith, c.requires.place, ap length c.self.view_is, long) in record {
      small = omega arith;
      places = length-set sets _ _ ∙ long;
      marks = λ role q low within.
          ap (λ v. is_marked (set sets (256 * (place / 256) + r) v) role q) (c.insert.ensures ∙ ap (λ s. with_role s (place % 256)) (c.index_mut.ensures.value ∙ get_or_default sets (index r place) c.index_mut.result.now 0 (inside sets r place whole (omega arith) there)))
          ∙ entered sets place r whole (omega arith) there role q low
          ∙ ap (λ t. (eqb q place && eqb role r) || t) (c.loop-role.invariant.marks role q low within)
          ∙ enter_more (eqb q place) (eqb role r) (nat_lt role c.loop-role.from && has c.args.roles role) (is_marked c.self.inside.sets.items role q)
          ∙ ap (λ t. (eqb q place && t) || is_marked c.self.inside.sets.items role q) (sym (member_next c.args.roles c.loop-role.from r role c.in-Some.ensures.member c.in-Some.ensures.from c.in-Some.ensures.least));
    }

pub returns-clause-marks : goal.returns-clause-marks
returns-clause-marks c role q low within =
    c.loop-role.invariant.marks role q low (subst (λ (x : List ℕ). q < length x) (sym c.self.view_is) within)
    ∙ ap (λ t. (eqb q c.args.place && t) || is_marked c.self.inside.sets.items role q) (member_none c.args.roles c.loop-role.from role c.in_default.ensures.none)
    ∙ ap (λ x. (eqb q c.args.place && has c.args.roles role) || is_marked x role q) c.self.view_is
