use Rattle.std.proofs.Common.{ℕ, List, length, ap, ◌∙◌, arith}
use Rattle.std.specs.Prelude.{bit_or, slice_index}
use Rattle.permission_core.specs.Objects.{index_of}
use Rattle.policy_core.specs.Access.{row_of}
use Rattle.permission_table.proofs.UnionLaws.{union_none, union_two}
use Rattle.permission_table.proofs.row.SessionRows.of.Goals as goal

pub loop-two-init : goal.loop-two-init
loop-two-init c =
    let same = c.in_ok-rows.ensures.ok in
    record {
      small = omega arith;
      whole = ap length same ∙ c.no_rows.ensures.whole;
      rows = λ operation.
          union_none c.args.policy.now c.args.roles operation (slice_index c.in_ok-rows.rows.value (index_of operation))
          (ap (λ (rows : List ℕ). slice_index rows (index_of operation)) same ∙ c.no_rows.ensures.empty operation);
    }

pub loop-two-preserved : goal.loop-two-preserved
loop-two-preserved c =
    let p = c.args.policy.now in
    let one : ℕ = c.in-Some.two.0 in
    let other : ℕ = c.in-Some.two.1 in
    let found = c.in-Some.ensures in
    record {
      small = omega (arith, c.is_small.ensures other found.members.1);
      whole = c.join_all.ensures.whole;
      rows = λ operation.
          union_two p c.args.roles operation (slice_index c.loop-two.rows.value (index_of operation)) c.loop-two.from one other
          (slice_index c.join_all.new.rows (index_of operation)) found.order.1 found.members found.between found.order.0
          (c.loop-two.invariant.rows operation)
          (c.join_all.ensures.joined operation
          ∙ ap (λ (rows : List ℕ). bit_or (bit_or (slice_index rows (index_of operation)) (row_of p one operation)) (row_of p other operation)) c.deref_mut.ensures.value);
    }
