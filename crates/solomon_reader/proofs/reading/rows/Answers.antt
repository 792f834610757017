use Rattle.std.proofs.Common.{◌≡◌, ◌+◌, ◌∷◌, ◌++◌, [], length, arith, rules, ap, ◌∙◌, map}
use Rattle.std.proofs.lemmas.List.{length-append}
use Rattle.std.proofs.lemmas.Result.{err_from_is_err_and}
use Rattle.solomon_reader.specs.declared.instance.Node.{Node}
use Rattle.solomon_reader.proofs.Rows.{row_more, nodes_more, row_fails}
use Rattle.solomon_reader.proofs.reading.rows.Goals as goal

pub returns-in_err-node : goal.returns-in_err-node
returns-in_err-node c =
    let next = rw c.in-Some.is at c.in_ok-line.ensures.line in
    let p = err_from_is_err_and c.from_residual-in_err-node.result c.from_residual-in_err-node.ensures.1 in
    let same : c.len.result ≡ length c.rows.nodes.items = search rules in
    let read = rw same at c.in_err-node.ensures in
    rw (p.1, p.2) (row_fails _ (length c.rows.nodes.items) _ c.in-Some.line.text.now _ _ _ _ c.in_err-node.field-0.0 _ _ next.0 next.1 (ap (map (λ w. w.now)) c.as_slice.ensures.value) read c.rows.invariant.read)

pub rows-preserved : goal.rows-preserved
rows-preserved c =
    let next = rw c.in-Some.is at c.in_ok-line.ensures.line in
    let same : c.len.result ≡ length c.rows.nodes.items = search rules in
    let read = rw same at c.in_ok-node.ensures in
    let given = ap (map (λ w. w.now)) c.as_slice.ensures.value in
    let after : c.push.new.self.items ≡ c.rows.nodes.items ++ c.in_ok-node.node ∷ [] = c.in_ok-push.ensures.items in
    let longer : length c.push.new.self.items ≡ length c.rows.nodes.items + 1 = omega (arith, ap (length {A = Node}) after, length-append c.rows.nodes.items (c.in_ok-node.node ∷ [])) in
    record {
      read = row_more _ _ (length c.rows.nodes.items) (length c.push.new.self.items) _ c.in-Some.line.text.now _ _ _ _ c.in_ok-node.node _ _ next.0 next.1 given next.2 longer read c.rows.invariant.read;
      nodes = nodes_more (length c.rows.nodes.items) _ c.in-Some.line.text.now _ _ _ _ c.in_ok-node.node c.rows.nodes.items c.push.new.self.items _ next.0 next.1 given read after c.rows.invariant.nodes;
      count = next.2 ∙ c.rows.invariant.count;
    }
