-- A new route is judged by its parts, one of which may be driven back.
use Rattle.std.specs.Prelude.{ℕ, List, ◌++◌, Bool, reverse, if◌then◌else◌}
use Rattle.route_parts.specs.declared.parts.Parts.{Parts}

-- some customers as they stand, or driven back
abbrev pub way_of : Bool → List ℕ → List ℕ
way_of turned xs = if turned then reverse xs else xs

-- the customers of a new route
abbrev pub route_of : Parts → List ℕ
route_of p = p.front.now ++ (way_of p.turned p.first.now ++ (p.second.now ++ (p.third.now ++ p.back.now)))

-- those between its first part and its last one
abbrev pub middle_of : Parts → List ℕ
middle_of p = way_of p.turned p.first.now ++ (p.second.now ++ p.third.now)

-- those before its last part
abbrev pub begun_of : Parts → List ℕ
begun_of p = p.front.now ++ middle_of p
