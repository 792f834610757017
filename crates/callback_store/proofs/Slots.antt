use Rattle.std.proofs.Common.{◌≡◌, ℕ, ◌<◌, ◌∙◌, sym, ap, subst, arith, List, length, map, slice_index_or}
use Rattle.std.proofs.lemmas.List.{get_or-map, length-map}
use Rattle.callback_store.specs.Tables.{Table, table_at, nodes_of, no_table, AreTables}

-- the table of what is kept at a number
pub kept_at : {X : Type 0} (f : X → Table) (xs : List X) (id i : ℕ) (x : X) → i ≡ id → id < length (map f xs) → x ≡ slice_index_or xs i x
    → f x ≡ table_at (map f xs) id
kept_at f xs id i x n h e =
    let below : i < length xs = omega (arith, length-map xs f) in
    ap f e ∙ sym (get_or-map f xs i x no_table below) ∙ ap (table_at (map f xs)) n

-- and it knows as many nodes as the first
pub kept_size : {X : Type 0} (f : X → Table) (xs : List X) (id i : ℕ) (x : X) → AreTables (map f xs) → i ≡ id → id < length (map f xs) → x ≡ slice_index_or xs i x
    → (f x).size ≡ nodes_of (map f xs)
kept_size f xs id i x same n h e = ap (λ (t : Table). t.size) (kept_at f xs id i x n h e) ∙ same.same id h

-- and what is below the number of nodes of the first is below its own
pub kept_below : {X : Type 0} (f : X → Table) (xs : List X) (id i : ℕ) (x : X) → AreTables (map f xs) → i ≡ id → id < length (map f xs) → x ≡ slice_index_or xs i x
    → (node : ℕ) → node < nodes_of (map f xs) → node < (f x).size
kept_below f xs id i x same n h e node low = subst (λ (m : ℕ). node < m) (sym (kept_size f xs id i x same n h e)) low
