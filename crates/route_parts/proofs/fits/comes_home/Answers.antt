use Rattle.std.proofs.Common.{[], ◌++◌, ◌∙◌, ◌<◌, refl, sym, length}
use Rattle.route_parts.specs.Parts.{way_of, middle_of, begun_of, route_of}
use Rattle.route_parts.proofs.Carried.{arrived, append_nil, in_parts, all_in_parts, all_left, all_right}
use Rattle.route_parts.proofs.Meeting.{no_way}
use Rattle.route_parts.proofs.fits.comes_home.Goals as goal

pub returns-in_default : goal.returns-in_default
returns-in_default g c =
    let p = c.args.parts.now in
    no_way c.requires.laws _ _ _ [] (route_of p) _ refl c.requires.some
    (c.requires.laws.spans.start (g.C.Callback.table c.args.callback.now) c.args.lane.now.dimension.now c.args.lane.now.vehicle _ c.in_default.ensures.span)

pub carry_on-requires-clause-known : goal.carry_on-requires-clause-known
carry_on-requires-clause-known g c =
    let p = c.args.parts.now in
    all_left c.requires.laws (λ n. n < length c.args.lane.now.dimension.now.ranges) p.front.now (way_of p.turned p.first.now ++ (p.second.now ++ (p.third.now ++ p.back.now))) c.requires.known

pub returns-in_default-carry_on : goal.returns-in_default-carry_on
returns-in_default-carry_on g c =
    let p = c.args.parts.now in
    let begun = c.requires.laws.spans.start (g.C.Callback.table c.args.callback.now) c.args.lane.now.dimension.now c.args.lane.now.vehicle _ c.in-Some.ensures.span in
    no_way c.requires.laws _ _ _ p.front.now (way_of p.turned p.first.now ++ (p.second.now ++ (p.third.now ++ p.back.now))) _ refl c.requires.some (c.in_default-carry_on.ensures.span [] begun refl)

pub carry_middle-requires-clause-here : goal.carry_middle-requires-clause-here
carry_middle-requires-clause-here g c =
    let begun = c.requires.laws.spans.start (g.C.Callback.table c.args.callback.now) c.args.lane.now.dimension.now c.args.lane.now.vehicle _ c.in-Some.ensures.span in
    (c.in-Some-carry_on.ensures.span [] begun refl).0

pub carry_middle-requires-clause-last : goal.carry_middle-requires-clause-last
carry_middle-requires-clause-last g c =
    let begun = c.requires.laws.spans.start (g.C.Callback.table c.args.callback.now) c.args.lane.now.dimension.now c.args.lane.now.vehicle _ c.in-Some.ensures.span in
    (c.in-Some-carry_on.ensures.span [] begun refl).1

pub carry_middle-requires-clause-known : goal.carry_middle-requires-clause-known
carry_middle-requires-clause-known g c =
    let p = c.args.parts.now in
    all_right c.requires.laws (λ n. n < length c.args.lane.now.dimension.now.ranges) p.front.now (middle_of p) (all_left c.requires.laws (λ n. n < length c.args.lane.now.dimension.now.ranges) (begun_of p) p.back.now (all_in_parts (λ n. n < length c.args.lane.now.dimension.now.ranges) p c.requires.known))

pub returns-in_default-carry_middle : goal.returns-in_default-carry_middle
returns-in_default-carry_middle g c =
    let p = c.args.parts.now in
    no_way c.requires.laws _ _ _ (begun_of p) p.back.now _ (in_parts p) c.requires.some c.in_default-carry_middle.ensures.span

pub carry_on-requires-2-clause-known : goal.carry_on-requires-2-clause-known
carry_on-requires-2-clause-known g c =
    let p = c.args.parts.now in
    all_right c.requires.laws (λ n. n < length c.args.lane.now.dimension.now.ranges) (begun_of p) p.back.now (all_in_parts (λ n. n < length c.args.lane.now.dimension.now.ranges) p c.requires.known)

pub returns-in_default-carry_on-2 : goal.returns-in_default-carry_on-2
returns-in_default-carry_on-2 g c =
    let p = c.args.parts.now in
    let s1 = c.in-Some-carry_middle.ensures.span in
    no_way c.requires.laws _ _ _ (begun_of p ++ p.back.now) [] _ (append_nil c.requires.laws _ ∙ in_parts p) c.requires.some
    (c.in_default-carry_on-2.ensures.span (begun_of p) s1.0 s1.1)

pub returns : goal.returns
returns g c =
    let p = c.args.parts.now in
    let s1 = c.in-Some-carry_middle.ensures.span in
    let s2 = c.in-Some-carry_on-2.ensures.span (begun_of p) s1.0 s1.1 in
    let home = arrived _ _ _ _ _ _ _ (in_parts p) (c.step_to-home.ensures _ s2.0 s2.1) in
    let decided = c.requires.laws.spans.bounds (g.C.Callback.table c.args.callback.now) c.args.lane.now.dimension.now c.args.lane.now.vehicle (route_of p) _ c.requires.some home in
    (λ is. decided.0 (sym c.is_some.ensures ∙ is), λ inside. c.is_some.ensures ∙ decided.1 inside)
