-- The answers of callbacks: all travel, the demand of each node, and service and travel together.
use Rattle.std.proofs.Common.{◌≡◌, ◌∙◌, sym, ap, subst, arith, ℕ, ◌+◌, ◌*◌, ◌/◌, ◌%◌, ◌<◌, ◌≤◌, Bool, true, false, List, length, map, slice_index, All}
use Rattle.std.proofs.lemmas.Grind.{same_number_lists}
use Rattle.std.proofs.lemmas.List.{get_or-map, length-map}
use Rattle.std.proofs.lemmas.List.Elements.{All-get_or, All-from_get_or}
use Rattle.std.proofs.lemmas.List.FromFn.{length-map-range_with_len}
use Rattle.callback_store.specs.Tables.{Table, entry, node_values, pair_values}
use Rattle.callback_store.specs.Closures.{node_values-at, pair_values-at, pairs_listed}
use Rattle.callback_store.specs.Stays.{AreStays}
use Rattle.solomon_reader.specs.declared.instance.Node.{Node}
use Rattle.solomon_reader.specs.Instances.{IsNode}
use Rattle.travel_table.specs.Travel.{Distances, node_at, travel_at}
use Rattle.program_parts.specs.Network.{Sites, IsNetwork, demand_at, time_between}

abbrev table : ℕ → Bool → List ℕ → Table
table n paired entries = record { size = n; paired = paired; entries = entries }

pub travel_listed : (nodes size : ℕ) (d : Distances) (t : Table) (items : List ℕ) → size ≡ nodes → d.size ≡ nodes → items ≡ d.entries
    → length d.entries ≡ d.size * d.size → t.size ≡ size → t.paired ≡ true → t.entries ≡ items
    → t ≡ record { size = nodes; paired = true; entries = pair_values nodes (travel_at d) }
travel_listed nodes size d t items s n e square p q r =
    let sized : length items ≡ nodes * nodes = ap (λ (xs : List ℕ). length xs) e ∙ square ∙ ap (λ (k : ℕ). k * k) n in
    let whole : items ≡ pair_values nodes (travel_at d) =
    pairs_listed nodes (travel_at d) items sized
    (λ i j h k. ap (λ (xs : List ℕ). slice_index xs (i * nodes + j)) e ∙ ap (λ (w : ℕ). slice_index d.entries (i * w + j)) (sym n)) in
    ap (λ (k : ℕ). table k t.paired t.entries) (p ∙ s) ∙ ap (λ (b : Bool). table nodes b t.entries) q ∙ ap (λ (xs : List ℕ). table nodes true xs) (r ∙ whole)

there : (s : Sites) → IsNetwork s → (i : ℕ) → i < length s.nodes → IsNode (node_at s.nodes i)
there s w i h = All-get_or IsNode s.nodes i (record { x = 0; y = 0; demand = 0; ready = 0; due = 0; service = 0 }) h w.nodes

-- the number of each node, where it is that of the node at its place
number_at : (f : Node → ℕ) (nodes : List Node) (i : ℕ) → i < length nodes → slice_index (map f nodes) i ≡ f (node_at nodes i)
number_at f nodes i h = get_or-map f nodes i (record { x = 0; y = 0; demand = 0; ready = 0; due = 0; service = 0 }) 0 h

pub demands_listed : (s : Sites) (items : List ℕ) → items ≡ map (λ (n : Node). n.demand) s.nodes
    → table (length items) false items ≡ table (length s.nodes) false (node_values (length s.nodes) (demand_at s))
demands_listed s items e =
    let sized : length items ≡ length s.nodes = ap (λ (xs : List ℕ). length xs) e ∙ length-map s.nodes (λ (n : Node). n.demand) in
    let whole : items ≡ node_values (length s.nodes) (demand_at s) =
    same_number_lists items (node_values (length s.nodes) (demand_at s)) (sized ∙ sym (length-map-range_with_len (demand_at s) 0 (length s.nodes)))
    (λ k h. let below : k < length s.nodes = omega (arith, sized) in
    ap (λ (xs : List ℕ). slice_index xs k) e ∙ number_at (λ (n : Node). n.demand) s.nodes k below ∙ sym (node_values-at (length s.nodes) (demand_at s) k below)) in
    ap (λ (k : ℕ). table k false items) sized ∙ ap (λ (xs : List ℕ). table (length s.nodes) false xs) whole

pub demands_few : (s : Sites) (items : List ℕ) → IsNetwork s → items ≡ map (λ (n : Node). n.demand) s.nodes → length items ≤ 4294967295
demands_few s items w e =
    let sized : length items ≡ length s.nodes = ap (λ (xs : List ℕ). length xs) e ∙ length-map s.nodes (λ (n : Node). n.demand) in
    let few = w.few_nodes in
    omega (arith, sized)

pub demands_small : (s : Sites) (items : List ℕ) → IsNetwork s → items ≡ map (λ (n : Node). n.demand) s.nodes → All (λ x. x ≤ 1000000000) items
demands_small s items w e =
    let sized : length items ≡ length s.nodes = ap (λ (xs : List ℕ). length xs) e ∙ length-map s.nodes (λ (n : Node). n.demand) in
    All-from_get_or (λ x. x ≤ 1000000000) items 0
    (λ k h. let below : k < length s.nodes = omega (arith, sized) in
    let here : slice_index items k ≡ (node_at s.nodes k).demand = ap (λ (xs : List ℕ). slice_index xs k) e ∙ number_at (λ (n : Node). n.demand) s.nodes k below in
    let small = (there s w k below).demand in
    omega (arith, here))

-- services and travel are stays and ways
pub stays : (s : Sites) (services : List ℕ) (t : Table) → IsNetwork s → services ≡ map (λ (n : Node). n.service * 10) s.nodes
    → t ≡ table (length s.nodes) true (pair_values (length s.nodes) (travel_at s.travel)) → AreStays t.size services t.entries
stays s services t w e same =
    let n = length s.nodes in
    let kept : AreStays n services (pair_values n (travel_at s.travel)) = record {
      sized = ap (λ (xs : List ℕ). length xs) e ∙ length-map s.nodes (λ (n : Node). n.service * 10);
      small = λ i j h k.
          let stay : slice_index services i ≡ (node_at s.nodes i).service * 10 = ap (λ (xs : List ℕ). slice_index xs i) e ∙ number_at (λ (n : Node). n.service * 10) s.nodes i h in
          let way = pair_values-at n (travel_at s.travel) i j h k in
          let service = (there s w i h).service in
          let travel = w.travel.small i j h k in
          omega (arith, stay, way, service, travel);
    } in
    subst (λ (t : Table). AreStays t.size services t.entries) (sym same) kept

pub times_listed : (s : Sites) (services : List ℕ) (t : Table) → services ≡ map (λ (n : Node). n.service * 10) s.nodes
    → t ≡ table (length s.nodes) true (pair_values (length s.nodes) (travel_at s.travel))
    → table t.size true (pair_values t.size (λ i j. slice_index services i + entry t i j)) ≡ table (length s.nodes) true (pair_values (length s.nodes) (time_between s))
times_listed s services t e same =
    let n = length s.nodes in
    let f : ℕ → ℕ → ℕ = λ i j. slice_index services i + entry (table n true (pair_values n (travel_at s.travel))) i j in
    let whole : pair_values n f ≡ pair_values n (time_between s) =
    pairs_listed n (time_between s) (pair_values n f) (length-map-range_with_len (λ k. f (k / n) (k % n)) 0 (n * n))
    (λ i j h k.
    let stay : slice_index services i ≡ (node_at s.nodes i).service * 10 = ap (λ (xs : List ℕ). slice_index xs i) e ∙ number_at (λ (n : Node). n.service * 10) s.nodes i h in
    pair_values-at n f i j h k ∙ ap (λ (a : ℕ). a + slice_index (pair_values n (travel_at s.travel)) (i * n + j)) stay
    ∙ ap (λ (b : ℕ). (node_at s.nodes i).service * 10 + b) (pair_values-at n (travel_at s.travel) i j h k)) in
    ap (λ (u : Table). table u.size true (pair_values u.size (λ i j. slice_index services i + entry u i j))) same
    ∙ ap (λ (xs : List ℕ). table n true xs) whole
