use Rattle.std.proofs.Common.{◌≡◌, ◌≤◌, ◌<◌, ◌+◌, ◌++◌, ◌∷◌, [], ℕ, List, None, length, drop, flat_map, sym, ap, subst, ◌∙◌, arith, append-nil}
use Rattle.std.specs.Option.{option_map, option_to_list}
use Rattle.plan_core.specs.Commits.{named_vehicles}
use Rattle.plan_core.specs.Plan.{changes_of, route_at, with_routes}
use Rattle.move_core.specs.Moves.{vehicles_of, named_by}
use Rattle.board_state.specs.Deltas.{new_spots, spots_behind}
use Rattle.board_state.proofs.Naming.{item_read, short_read, as_many, name_at, two_named, spots_same, none_back, some_back}
use Rattle.board_state.proofs.change.Judged.new_spots.Goals as goal

pub add_new_spots-requires : goal.add_new_spots-requires
add_new_spots-requires c =
    let ready = c.requires in
    let some : 0 < length c.args.commit.now.new.changes.items = omega (arith, ready.routes.changes.some, as_many c.args.commit.now.new.changes.items) in
    subst (λ (l : List ℕ). length l ≤ 1000) (sym (c.customers-2.ensures ∙ c.deref-2.ensures))
    (short_read c.args.commit.now.new.changes.items 0 c.index.result.now some c.index.ensures ready.routes.lengths)

pub index-requires-in-Some : goal.index-requires-in-Some
index-requires-in-Some c =
    let ready = c.requires in
    let held = c.args.self.now.of in
    let commit = c.args.commit.now in
    let back = some_back (route_at held.plan.routes) (vehicles_of commit.mv).1 _ (sym ready.other ∙ ap (option_map (λ r. r.value)) c.in-Some.is) in
    let names : named_vehicles (changes_of commit.new.changes.items) ≡ (vehicles_of commit.mv).0 ∷ back.0 ∷ [] =
    c.moves_name_vehicles.ensures.named held.plan.customers held.plan.routes commit.mv (changes_of commit.new.changes.items) ready.made.possible ∙ ap (λ o. (vehicles_of commit.mv).0 ∷ option_to_list o) back.1 in
    let two = two_named (changes_of commit.new.changes.items) (vehicles_of commit.mv).0 back.0 names in
    omega (arith, two, as_many commit.new.changes.items)

pub add_new_spots-requires-in-Some : goal.add_new_spots-requires-in-Some
add_new_spots-requires-in-Some c =
    let ready = c.requires in
    let held = c.args.self.now.of in
    let commit = c.args.commit.now in
    let back = some_back (route_at held.plan.routes) (vehicles_of commit.mv).1 _ (sym ready.other ∙ ap (option_map (λ r. r.value)) c.in-Some.is) in
    let names : named_vehicles (changes_of commit.new.changes.items) ≡ (vehicles_of commit.mv).0 ∷ back.0 ∷ [] =
    c.moves_name_vehicles.ensures.named held.plan.customers held.plan.routes commit.mv (changes_of commit.new.changes.items) ready.made.possible ∙ ap (λ o. (vehicles_of commit.mv).0 ∷ option_to_list o) back.1 in
    let two = two_named (changes_of commit.new.changes.items) (vehicles_of commit.mv).0 back.0 names in
    let below : 1 < length commit.new.changes.items = omega (arith, two, as_many commit.new.changes.items) in
    subst (λ (l : List ℕ). length l ≤ 1000) (sym (c.customers-in-Some-2.ensures ∙ c.deref-in-Some-2.ensures))
    (short_read commit.new.changes.items 1 c.index-in-Some.result.now below c.index-in-Some.ensures ready.routes.lengths)

pub returns-in-None : goal.returns-in-None
returns-in-None c =
    let ready = c.requires in
    let commit = c.args.commit.now in
    let mv = commit.mv in
    let routes = c.args.self.now.of.plan.routes in
    let changes = changes_of commit.new.changes.items in
    let others = with_routes changes routes in
    let v = (vehicles_of mv).0 in
    let names : named_vehicles changes ≡ named_by mv = c.moves_name_vehicles.ensures.named c.args.self.now.of.plan.customers routes mv changes ready.made.possible in
    let some : 0 < length commit.new.changes.items = omega (arith, ready.routes.changes.some, as_many commit.new.changes.items) in
    let x = c.index.result.now in
    let at = item_read commit.new.changes.items 0 x some c.index.ensures in
    let who : x.0 ≡ v = let h = name_at changes (named_by mv) 0 (x.0, x.1.value) names at in cc in
    let is = sym (c.routes_replaced.ensures.named changes routes 0 (x.0, x.1.value) ready.routes.changes.apart at) in
    let one = spots_same routes others mv v x.0 c.kept_by-kept.result _ _ who c.kept_by-kept.ensures (c.customers.ensures ∙ c.deref.ensures ∙ ready.former)
    (c.customers-2.ensures ∙ c.deref-2.ensures ∙ is ∙ ap (route_at others) who) in
    let front : c.add_new_spots.new.places.items ≡ new_spots routes others mv v = c.in_ok-add_new_spots.ensures ∙ (ap (λ l. l ++ spots_behind x.0 (c.kept_by-kept.result + 1) c.customers.result.now (drop c.kept_by-kept.result c.customers-2.result.now)) c.new-places.ensures.items ∙ one) in
    let none : (vehicles_of mv).1 ≡ None = none_back (route_at routes) (vehicles_of mv).1 (sym ready.other ∙ ap (option_map (λ r. r.value)) c.in-None.is) in
    front ∙ (sym (append-nil (new_spots routes others mv v)) ∙ ap (λ o. new_spots routes others mv v ++ flat_map (new_spots routes others mv) (option_to_list o)) (sym none))

pub returns-in_ok-add_new_spots-in-Some : goal.returns-in_ok-add_new_spots-in-Some
returns-in_ok-add_new_spots-in-Some c =
    let ready = c.requires in
    let commit = c.args.commit.now in
    let mv = commit.mv in
    let routes = c.args.self.now.of.plan.routes in
    let changes = changes_of commit.new.changes.items in
    let others = with_routes changes routes in
    let v = (vehicles_of mv).0 in
    let names : named_vehicles changes ≡ named_by mv = c.moves_name_vehicles.ensures.named c.args.self.now.of.plan.customers routes mv changes ready.made.possible in
    let some : 0 < length commit.new.changes.items = omega (arith, ready.routes.changes.some, as_many commit.new.changes.items) in
    let x = c.index.result.now in
    let at = item_read commit.new.changes.items 0 x some c.index.ensures in
    let who : x.0 ≡ v = let h = name_at changes (named_by mv) 0 (x.0, x.1.value) names at in cc in
    let is = sym (c.routes_replaced.ensures.named changes routes 0 (x.0, x.1.value) ready.routes.changes.apart at) in
    let one = spots_same routes others mv v x.0 c.kept_by-kept.result _ _ who c.kept_by-kept.ensures (c.customers.ensures ∙ c.deref.ensures ∙ ready.former)
    (c.customers-2.ensures ∙ c.deref-2.ensures ∙ is ∙ ap (route_at others) who) in
    let front : c.add_new_spots.new.places.items ≡ new_spots routes others mv v = c.in_ok-add_new_spots.ensures ∙ (ap (λ l. l ++ spots_behind x.0 (c.kept_by-kept.result + 1) c.customers.result.now (drop c.kept_by-kept.result c.customers-2.result.now)) c.new-places.ensures.items ∙ one) in
    let back = some_back (route_at routes) (vehicles_of mv).1 _ (sym ready.other ∙ ap (option_map (λ r. r.value)) c.in-Some.is) in
    let w = back.0 in
    let both : named_by mv ≡ v ∷ w ∷ [] = ap (λ o. v ∷ option_to_list o) back.1 in
    let two = two_named changes v w (names ∙ both) in
    let below : 1 < length commit.new.changes.items = omega (arith, two, as_many commit.new.changes.items) in
    let y = c.index-in-Some.result.now in
    let there = item_read commit.new.changes.items 1 y below c.index-in-Some.ensures in
    let other : y.0 ≡ w = let h = name_at changes (v ∷ w ∷ []) 1 (y.0, y.1.value) (names ∙ both) there in cc in
    let also = sym (c.routes_replaced.ensures.named changes routes 1 (y.0, y.1.value) ready.routes.changes.apart there) in
    let more = spots_same routes others mv w y.0 c.kept_by-kept-in-Some.result _ _ other c.kept_by-kept-in-Some.ensures (c.customers-in-Some.ensures ∙ c.deref-in-Some.ensures ∙ sym back.2)
    (c.customers-in-Some-2.ensures ∙ c.deref-in-Some-2.ensures ∙ also ∙ ap (route_at others) other) in
    c.in_ok-add_new_spots-in-Some.ensures ∙ (ap (λ l. l ++ spots_behind y.0 (c.kept_by-kept-in-Some.result + 1) c.customers-in-Some.result.now (drop c.kept_by-kept-in-Some.result c.customers-in-Some-2.result.now)) front
    ∙ (ap (λ l. new_spots routes others mv v ++ l) (more ∙ sym (append-nil (new_spots routes others mv w)))
    ∙ ap (λ o. new_spots routes others mv v ++ flat_map (new_spots routes others mv) (option_to_list o)) (sym back.1)))
