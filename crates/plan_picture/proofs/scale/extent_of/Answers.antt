use Rattle.std.proofs.Common.{◌≡◌, ◌∙◌, ◌+◌, ◌<◌, ◌≤◌, ℕ, List, length, drop, get_or, ap, sym}
use Rattle.std.specs.Prelude.{max, min, fold}
use Rattle.std.proofs.lemmas.List.{drop_all, drop_more}
use Rattle.solomon_reader.specs.declared.instance.Node.{Node}
use Rattle.plan_picture.specs.declared.scale.Extent.{Extent}
use Rattle.plan_picture.specs.Drawn.{extent_of}
use Rattle.plan_picture.specs.Scales.{least_x, most_x, least_y, most_y}
use Rattle.plan_picture.proofs.scale.extent_of.Goals as goal

one_more : (f : ℕ → Node → ℕ) (nodes : List Node) (k m new all : ℕ) (d : Node) → k < length nodes → new ≡ f m (get_or nodes k d) → fold f m (drop k nodes) ≡ all
    → fold f new (drop (k + 1) nodes) ≡ all
one_more f nodes k m new all d lt e h = ap (λ v. fold f v (drop (k + 1) nodes)) e ∙ sym (ap (fold f m) (drop_more nodes k d lt)) ∙ h

none_left : (f : ℕ → Node → ℕ) (nodes : List Node) (k m all : ℕ) → length nodes ≤ k → fold f m (drop k nodes) ≡ all → m ≡ all
none_left f nodes k m all le h = sym (ap (fold f m) (drop_all k nodes le)) ∙ h

built : (extent : Extent) (nodes : List Node) → extent.least_x ≡ least_x nodes → extent.most_x ≡ most_x nodes → extent.least_y ≡ least_y nodes → extent.most_y ≡ most_y nodes
    → extent.most_demand ≡ fold (λ m n. max m n.demand) 0 nodes → extent ≡ extent_of nodes
built extent nodes a b d e f = λ i. record { least_x = a i; most_x = b i; least_y = d i; most_y = e i; most_demand = f i }

pub loop-node-preserved : goal.loop-node-preserved
loop-node-preserved c =
    let nodes = c.args.nodes.now in
    let k = c.loop-node.node-index in
    let within = c.loop-node-test.true in
    let left = c.loop-node.invariant in
    record {
      least_x = one_more (λ m n. min m n.x) nodes k _ c.min.result _ _ within c.min.ensures left.least_x;
      most_x = one_more (λ m n. max m n.x) nodes k _ c.max.result _ _ within c.max.ensures left.most_x;
      least_y = one_more (λ m n. min m n.y) nodes k _ c.min-in-loop-node.result _ _ within c.min-in-loop-node.ensures left.least_y;
      most_y = one_more (λ m n. max m n.y) nodes k _ c.max-in-loop-node.result _ _ within c.max-in-loop-node.ensures left.most_y;
      most_demand = one_more (λ m n. max m n.demand) nodes k _ c.max-in-loop-node-2.result _ _ within c.max-in-loop-node-2.ensures left.most_demand;
    }

pub returns : goal.returns
returns c =
    let nodes = c.args.nodes.now in
    let k = c.loop-node.node-index in
    let extent = c.loop-node.extent in
    let end = c.loop-node-test.false in
    let left = c.loop-node.invariant in
    built extent nodes
    (none_left (λ m n. min m n.x) nodes k extent.least_x (least_x nodes) end left.least_x)
    (none_left (λ m n. max m n.x) nodes k extent.most_x (most_x nodes) end left.most_x)
    (none_left (λ m n. min m n.y) nodes k extent.least_y (least_y nodes) end left.least_y)
    (none_left (λ m n. max m n.y) nodes k extent.most_y (most_y nodes) end left.most_y)
    (none_left (λ m n. max m n.demand) nodes k extent.most_demand _ end left.most_demand)
