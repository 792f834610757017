-- What every instance keeps.
use Rattle.std.proofs.Common.{◌≡◌, ℕ, zero, suc, ◌+◌, ◌≤◌, ◌<◌, List, [], ◌∷◌, length, get_or, refl, arith}
use Rattle.std.specs.List.{AllByRecursion, AllZip}
use Rattle.text_words.specs.Words.{words}
use Rattle.solomon_reader.specs.Cuts.{Numbered}
use Rattle.solomon_reader.specs.Fields.{IsNumber}
use Rattle.solomon_reader.specs.declared.instance.Node.{Node}
use Rattle.solomon_reader.specs.Instances.{Plain, IsRow, AreRows, IsInstance, IsNode, IsSound}
use Rattle.solomon_reader.proofs.NumberRelation.{number_small}

numbers_small : (ws : List (List ℕ)) (ns : List ℕ) → AllZip IsNumber ws ns → AllByRecursion (λ n. n ≤ 9999999) ns
numbers_small [] [] h = tt
numbers_small [] (n ∷ ns) h = absurd h
numbers_small (w ∷ ws) [] h = absurd h
numbers_small (w ∷ ws) (n ∷ ns) h = (number_small w n h.0, numbers_small ws ns h.1)

node_is : (count : ℕ) (node : Node) (ws : List (List ℕ)) → IsRow count node ws → node.ready ≤ node.due → IsNode node
node_is count node ws h window =
    let s = numbers_small ws _ h in
    record { x = s.1.0; y = s.1.1.0; demand = s.1.1.1.0; ready = window; due = s.1.1.1.1.1.0; service = s.1.1.1.1.1.1.0 }

nodes_are : (count : ℕ) (lines : List Numbered) (nodes : List Node) → AreRows count lines nodes → (k : ℕ) (d : Node) → k < length nodes → IsNode (get_or nodes k d)
nodes_are count [] [] h k d lt = absurd (omega arith)
nodes_are count [] (node ∷ nodes) h k d lt = absurd h
nodes_are count (line ∷ lines) [] h k d lt = absurd h
nodes_are count (line ∷ lines) (node ∷ nodes) h zero d lt = node_is count node (words line.text) h.0 h.1
nodes_are count (line ∷ lines) (node ∷ nodes) h (suc k) d lt = nodes_are (count + 1) lines nodes h.3 k d (omega arith)

depot_is : (lines : List Numbered) (nodes : List Node) → AreRows 0 lines nodes → 2 ≤ length nodes → (d : Node) → (get_or nodes 0 d).demand ≡ 0
depot_is [] [] h some d = absurd (omega arith)
depot_is [] (node ∷ nodes) h some d = absurd h
depot_is (line ∷ lines) [] h some d = absurd h
depot_is (line ∷ lines) (node ∷ nodes) h some d = h.2 refl

pub instance_is_sound : (lines : List Numbered) (i : Plain) → IsInstance lines i → IsSound i
instance_is_sound lines i h =
    let s = numbers_small (words h.fleet_line.text) (i.vehicles ∷ i.capacity ∷ []) h.fleet in
    record {
      some_vehicles = h.some_vehicles;
      few_vehicles = h.few_vehicles;
      capacity = s.1.0;
      some_nodes = h.some_nodes;
      few_nodes = h.few_nodes;
      nodes = nodes_are 0 h.rows i.nodes h.nodes;
      depot = depot_is h.rows i.nodes h.nodes h.some_nodes;
    }
