use Rattle.std.proofs.Common.{◌≡◌, subst, ℕ, ◌+◌, ◌-◌, ◌*◌, ◌<◌, inl, inr, List, length, ap, sym, ◌∙◌, arith}
use Rattle.std.proofs.lemmas.Bool.{cases_lt}
use Rattle.std.proofs.lemmas.List.{get_or_default}
use Rattle.role_hierarchy.specs.Roles.{has}
use Rattle.permission_table.specs.Reaching.{is_marked}
use Rattle.permission_table.proofs.ReachLaws.{in_blocks, unmarked}
use Rattle.permission_table.proofs.reaching.Reaching.next.Goals as goal

pub returns-in-Some-clause-between : goal.returns-in-Some-clause-between
returns-in-Some-clause-between c q low high =
    let sets : List ℕ = c.self.inside.sets.items in
    let block = c.loop-block.block in
    let there : 256 * block + c.args.role < length sets = omega (arith, c.loop-block-test.true, c.len.ensures, c.self.invariant) in
    let within : q < length sets = omega (arith, high, c.loop-block-test.true, c.len.ensures, c.self.invariant) in
    ap (λ x. is_marked x c.args.role q) (sym c.self.view_is)
    ∙ elim (cases_lt q (256 * block + c.loop-block.first)) [
      | inl before ↦ c.loop-block.invariant.between q low before within
      | inr here ↦
          unmarked sets block c.args.role q (omega arith) (omega (arith, here)) (omega (arith, high))
          (ap (λ s. has s (q - 256 * block)) (sym (c.index.ensures ∙ get_or_default sets (256 * block + c.args.role) c.index.result.now 0 there))
          ∙ c.in-Some.ensures.least (q - 256 * block) (omega (arith, here)) (omega (arith, here, high)))
    ]

pub loop-block-preserved : goal.loop-block-preserved
loop-block-preserved c =
    let sets : List ℕ = c.self.inside.sets.items in
    let block = c.loop-block.block in
    let there : 256 * block + c.args.role < length sets = omega (arith, c.loop-block-test.true, c.len.ensures, c.self.invariant) in record {
      first = omega arith;
      start = omega (arith, c.loop-block.invariant.start, c.loop-block.invariant.first);
      between = λ q low high within. elim (cases_lt q (256 * block + c.loop-block.first)) [
        | inl before ↦ c.loop-block.invariant.between q low before within
        | inr here ↦
            unmarked sets block c.args.role q (omega arith) (omega (arith, here)) (omega (arith, high))
            (ap (λ s. has s (q - 256 * block)) (sym (c.index.ensures ∙ get_or_default sets (256 * block + c.args.role) c.index.result.now 0 there))
            ∙ c.in_default.ensures.none (q - 256 * block) (omega (arith, here)))
      ];
    }

pub returns-clause-none : goal.returns-clause-none
returns-clause-none c q low high =
    let sets : List ℕ = c.self.inside.sets.items in
    let within : q < length sets = subst (λ (x : List ℕ). q < length x) (sym c.self.view_is) high in
    let same : c.len.result ≡ length sets = omega (arith, c.len.ensures) in
    ap (λ x. is_marked x c.args.role q) (sym c.self.view_is)
    ∙ c.loop-block.invariant.between q low (in_blocks q c.loop-block.block c.loop-block.first c.len.result (length sets) within same c.self.invariant c.loop-block-test.false) within
