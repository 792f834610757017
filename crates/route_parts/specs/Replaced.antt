-- A route with a stretch replaced, and one that goes on as another.
use Rattle.std.specs.Prelude.{ℕ, List, ◌++◌, take, drop}
use Rattle.route_parts.specs.declared.replaced.Joining.{Joining}
use Rattle.route_parts.specs.declared.replaced.Replacement.{Replacement}
use Rattle.route_parts.specs.Parts.{way_of}

-- the customers of a route with some others in place of those from one index on and before another
abbrev pub replaced : List ℕ → Replacement → List ℕ
replaced route by = take by.begin route ++ (way_of by.turned by.first.now ++ (by.second.now ++ (by.third.now ++ drop by.end route)))

-- the first customers of a route, and those of another after some
abbrev pub joined : Joining → List ℕ
joined by = take by.keep by.route.now ++ drop by.keep_other by.other.now
