-- The hops that a move loses and those that it gains, by the stops of its routes: A and B are the depot, the customers of a route, the depot.
use Rattle.std.specs.Prelude.{ℕ, ◌+◌, ◌-◌, List, slice_index}
use Rattle.callback_store.specs.Tables.{Table}
use Rattle.way_costs.specs.Ways.{hop, along, turned}

-- a shift of n customers from place p of A; what comes before and after them at the place `at` stands o places further in B
abbrev pub shift_lost : Table → List ℕ → List ℕ → ℕ → ℕ → ℕ → ℕ → ℕ
shift_lost t A B p n o at =
    hop t (slice_index A (p - 1)) (slice_index A p) + hop t (slice_index A (p + n - 1)) (slice_index A (p + n))
    + hop t (slice_index B (at - 1 + o)) (slice_index B (at + o))

abbrev pub shift_gained : Table → List ℕ → List ℕ → ℕ → ℕ → ℕ → ℕ → ℕ
shift_gained t A B p n o at =
    hop t (slice_index A (p - 1)) (slice_index A (p + n)) + hop t (slice_index B (at - 1 + o)) (slice_index A p)
    + hop t (slice_index A (p + n - 1)) (slice_index B (at + o))

-- a swap of the customer at place p of A with the one at place q of B, which are no neighbours
abbrev pub swap_lost : Table → List ℕ → List ℕ → ℕ → ℕ → ℕ
swap_lost t A B p q =
    hop t (slice_index A (p - 1)) (slice_index A p) + hop t (slice_index A p) (slice_index A (p + 1))
    + hop t (slice_index B (q - 1)) (slice_index B q) + hop t (slice_index B q) (slice_index B (q + 1))

abbrev pub swap_gained : Table → List ℕ → List ℕ → ℕ → ℕ → ℕ
swap_gained t A B p q =
    hop t (slice_index A (p - 1)) (slice_index B q) + hop t (slice_index B q) (slice_index A (p + 1))
    + hop t (slice_index B (q - 1)) (slice_index A p) + hop t (slice_index A p) (slice_index B (q + 1))

-- a swap of the customer at place p with the next one
abbrev pub next_lost : Table → List ℕ → ℕ → ℕ
next_lost t A p =
    hop t (slice_index A (p - 1)) (slice_index A p) + hop t (slice_index A p) (slice_index A (p + 1))
    + hop t (slice_index A (p + 1)) (slice_index A (p + 2))

abbrev pub next_gained : Table → List ℕ → ℕ → ℕ
next_gained t A p =
    hop t (slice_index A (p - 1)) (slice_index A (p + 1)) + hop t (slice_index A (p + 1)) (slice_index A p)
    + hop t (slice_index A p) (slice_index A (p + 2))

-- a cross after the first k customers of A and the first l of B
abbrev pub cross_lost : Table → List ℕ → List ℕ → ℕ → ℕ → ℕ
cross_lost t A B k l = hop t (slice_index A k) (slice_index A (k + 1)) + hop t (slice_index B l) (slice_index B (l + 1))

abbrev pub cross_gained : Table → List ℕ → List ℕ → ℕ → ℕ → ℕ
cross_gained t A B k l = hop t (slice_index A k) (slice_index B (l + 1)) + hop t (slice_index B l) (slice_index A (k + 1))

-- a reverse of the customers from place i to place j
abbrev pub reverse_lost : Table → List ℕ → ℕ → ℕ → ℕ
reverse_lost t A i j =
    hop t (slice_index A (i - 1)) (slice_index A i) + along (hop t) A j + along (turned (hop t)) A i + hop t (slice_index A j) (slice_index A (j + 1))

abbrev pub reverse_gained : Table → List ℕ → ℕ → ℕ → ℕ
reverse_gained t A i j =
    hop t (slice_index A (i - 1)) (slice_index A j) + along (turned (hop t)) A j + along (hop t) A i + hop t (slice_index A i) (slice_index A (j + 1))
