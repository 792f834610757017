use Rattle.std.specs.Prelude.{ℕ, ◌+◌, ◌-◌, Bool, not, ◌==◌, ◌&&◌, nat_le, nat_lt, if◌then◌else◌, List, [], ◌∷◌, ◌++◌, length, take, drop, reverse, slice_set, slice_index, Option, Some, None}
use Rattle.std.specs.List.{list_any}
use Rattle.std.specs.Option.{option_to_list}
use Rattle.plan_core.specs.Plan.{Changes, route_at}
use Rattle.plan_core.specs.Among.{is_among}
use Rattle.move_core.specs.declared.moves.Move.{Move}
use Rattle.move_core.specs.declared.moves.Move.TheVariants.{Insert, Remove, Shift, Swap, Reverse, Cross}

-- The vehicles that a move names, in the order of its fields, each once.
abbrev pub vehicles_of : Move → ℕ × Option ℕ
vehicles_of (Insert customer vehicle place) = (vehicle, None)
vehicles_of (Remove vehicle place) = (vehicle, None)
vehicles_of (Shift vehicle place length to at) = (vehicle, if vehicle == to then None else Some to)
vehicles_of (Swap vehicle place other at) = (vehicle, if vehicle == other then None else Some other)
vehicles_of (Reverse vehicle first last) = (vehicle, None)
vehicles_of (Cross vehicle keep other keep_other) = (vehicle, if vehicle == other then None else Some other)

-- the same as a list
abbrev pub named_by : Move → List ℕ
named_by mv = (vehicles_of mv).0 ∷ option_to_list (vehicles_of mv).1

-- whether a vehicle is one of the fleet
abbrev pub is_vehicle : List (List ℕ) → ℕ → Bool
is_vehicle routes v = nat_le 1 v && nat_le v (length routes)

-- whether a place of a route is taken
abbrev pub is_place : List ℕ → ℕ → Bool
is_place r p = nat_le 1 p && nat_le p (length r)

-- whether a customer stands on some route
abbrev pub is_placed : List (List ℕ) → ℕ → Bool
is_placed routes c = list_any (λ r. is_among c r) routes

-- whether a customer is one of n and stands on no route
abbrev pub is_free : ℕ → List (List ℕ) → ℕ → Bool
is_free customers routes c = nat_le 1 c && (nat_le c customers && not (is_placed routes c))

-- this many customers of a route, from one place on
abbrev pub stretch : List ℕ → ℕ → ℕ → List ℕ
stretch r place n = take n (drop (place - 1) r)

-- a route without this many customers from one place on
abbrev pub without : List ℕ → ℕ → ℕ → List ℕ
without r place n = take (place - 1) r ++ drop (place - 1 + n) r

-- a route with some customers inserted, the first of them at a place
abbrev pub with_stretch : List ℕ → ℕ → List ℕ → List ℕ
with_stretch r place s = take (place - 1) r ++ (s ++ drop (place - 1) r)

-- a route with another customer at one place
abbrev pub with_customer : List ℕ → ℕ → ℕ → List ℕ
with_customer r place c = slice_set r (place - 1) c

-- the customer at a place
abbrev pub customer_at : List ℕ → ℕ → ℕ
customer_at r place = slice_index r (place - 1)

-- a route with the customers from one place to another in the opposite order
abbrev pub reversed_within : List ℕ → ℕ → ℕ → List ℕ
reversed_within r first last = take (first - 1) r ++ (reverse (stretch r first (last - first + 1)) ++ drop last r)

-- the first customers of a route, then those of another route after its first ones
abbrev pub crossed : List ℕ → ℕ → List ℕ → ℕ → List ℕ
crossed r keep q keep_other = take keep r ++ drop keep_other q

-- Whether a move has an effect, by the numbers of its kind. Sums do not wrap.
abbrev pub is_possible : ℕ → List (List ℕ) → Move → Bool
is_possible customers routes (Insert customer vehicle place) =
    is_vehicle routes vehicle && (is_free customers routes customer && (nat_le 1 place && nat_le place (length (route_at routes vehicle) + 1)))
is_possible customers routes (Remove vehicle place) = is_vehicle routes vehicle && is_place (route_at routes vehicle) place
is_possible customers routes (Shift vehicle place n to at) =
    is_vehicle routes vehicle && (is_vehicle routes to && (nat_le 1 n && (nat_le 1 place && (nat_le (place + n) (length (route_at routes vehicle) + 1)
    && (nat_le 1 at && (if vehicle == to then nat_le (at + n) (length (route_at routes to) + 1) && not (at == place)
    else nat_le at (length (route_at routes to) + 1)))))))
is_possible customers routes (Swap vehicle place other at) =
    is_vehicle routes vehicle && (is_vehicle routes other && (is_place (route_at routes vehicle) place && (is_place (route_at routes other) at
    && not (vehicle == other && place == at))))
is_possible customers routes (Reverse vehicle first last) =
    is_vehicle routes vehicle && (nat_le 1 first && (nat_lt first last && nat_le last (length (route_at routes vehicle))))
is_possible customers routes (Cross vehicle keep other keep_other) =
    is_vehicle routes vehicle && (is_vehicle routes other && (not (vehicle == other) && (nat_le keep (length (route_at routes vehicle))
    && (nat_le keep_other (length (route_at routes other))
    && not (keep == length (route_at routes vehicle) && keep_other == length (route_at routes other))))))

-- The new routes of a move that has an effect, in the order in which it names the vehicles.
abbrev pub changes_by : List (List ℕ) → Move → Changes
changes_by routes (Insert customer vehicle place) = (vehicle, with_stretch (route_at routes vehicle) place (customer ∷ [])) ∷ []
changes_by routes (Remove vehicle place) = (vehicle, without (route_at routes vehicle) place 1) ∷ []
changes_by routes (Shift vehicle place n to at) =
    if vehicle == to
    then (vehicle, with_stretch (without (route_at routes vehicle) place n) at (stretch (route_at routes vehicle) place n)) ∷ []
    else (vehicle, without (route_at routes vehicle) place n) ∷ (to, with_stretch (route_at routes to) at (stretch (route_at routes vehicle) place n)) ∷ []
changes_by routes (Swap vehicle place other at) =
    if vehicle == other
    then (vehicle, with_customer (with_customer (route_at routes vehicle) place (customer_at (route_at routes vehicle) at)) at (customer_at (route_at routes vehicle) place)) ∷ []
    else (vehicle, with_customer (route_at routes vehicle) place (customer_at (route_at routes other) at))
    ∷ (other, with_customer (route_at routes other) at (customer_at (route_at routes vehicle) place)) ∷ []
changes_by routes (Reverse vehicle first last) = (vehicle, reversed_within (route_at routes vehicle) first last) ∷ []
changes_by routes (Cross vehicle keep other keep_other) =
    (vehicle, crossed (route_at routes vehicle) keep (route_at routes other) keep_other)
    ∷ (other, crossed (route_at routes other) keep_other (route_at routes vehicle) keep) ∷ []

-- The effect of a move on a plan of this many customers: the new routes, or none.
abbrev pub effect : ℕ → List (List ℕ) → Move → Option Changes
effect customers routes mv = if is_possible customers routes mv then Some (changes_by routes mv) else None
