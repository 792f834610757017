use Rattle.std.proofs.Common.{append_assoc, ◌++◌, ◌∙◌, ◌<◌, length}
use Rattle.route_parts.specs.Parts.{way_of}
use Rattle.route_parts.proofs.Carried.{middle_found, middle_none, all_left, all_right, all_way}
use Rattle.route_parts.proofs.fits.carry_middle.Goals as goal

pub carry_way-requires-clause-known : goal.carry_way-requires-clause-known
carry_way-requires-clause-known g c =
    let p = c.args.parts.now in
    all_way c.requires.laws (λ n. n < length c.args.lane.now.dimension.now.ranges) p.turned p.first.now (all_left c.requires.laws (λ n. n < length c.args.lane.now.dimension.now.ranges) (way_of p.turned p.first.now) (p.second.now ++ p.third.now) c.requires.known)

pub returns-in_default-clause-span : goal.returns-in_default-clause-span
returns-in_default-clause-span g c =
    let p = c.args.parts.now in
    middle_none c.requires.laws _ _ _ (p.front.now ++ way_of p.turned p.first.now) (p.second.now ++ p.third.now) _
    (append_assoc p.front.now (way_of p.turned p.first.now) (p.second.now ++ p.third.now)) (c.in_default.ensures.span p.front.now c.requires.here c.requires.last)

pub carry_on-requires-clause-known : goal.carry_on-requires-clause-known
carry_on-requires-clause-known g c =
    let p = c.args.parts.now in
    all_left c.requires.laws (λ n. n < length c.args.lane.now.dimension.now.ranges) p.second.now p.third.now (all_right c.requires.laws (λ n. n < length c.args.lane.now.dimension.now.ranges) (way_of p.turned p.first.now) (p.second.now ++ p.third.now) c.requires.known)

pub returns-in_default-carry_on-clause-span : goal.returns-in_default-carry_on-clause-span
returns-in_default-carry_on-clause-span g c =
    let p = c.args.parts.now in
    let s1 = c.in-Some.ensures.span p.front.now c.requires.here c.requires.last in
    middle_none c.requires.laws _ _ _ ((p.front.now ++ way_of p.turned p.first.now) ++ p.second.now) p.third.now _
    (append_assoc (p.front.now ++ way_of p.turned p.first.now) p.second.now p.third.now ∙ append_assoc p.front.now (way_of p.turned p.first.now) (p.second.now ++ p.third.now))
    (c.in_default-carry_on.ensures.span (p.front.now ++ way_of p.turned p.first.now) s1.0 s1.1)

pub carry_on-requires-2-clause-known : goal.carry_on-requires-2-clause-known
carry_on-requires-2-clause-known g c =
    let p = c.args.parts.now in
    all_right c.requires.laws (λ n. n < length c.args.lane.now.dimension.now.ranges) p.second.now p.third.now (all_right c.requires.laws (λ n. n < length c.args.lane.now.dimension.now.ranges) (way_of p.turned p.first.now) (p.second.now ++ p.third.now) c.requires.known)

pub returns-clause-span : goal.returns-clause-span
returns-clause-span g c =
    let p = c.args.parts.now in
    let s1 = c.in-Some.ensures.span p.front.now c.requires.here c.requires.last in
    let s2 = c.in-Some-carry_on.ensures.span (p.front.now ++ way_of p.turned p.first.now) s1.0 s1.1 in
    middle_found _ _ _ _ _ _
    (append_assoc (p.front.now ++ way_of p.turned p.first.now) p.second.now p.third.now ∙ append_assoc p.front.now (way_of p.turned p.first.now) (p.second.now ++ p.third.now))
    (c.carry_on-2.ensures.span ((p.front.now ++ way_of p.turned p.first.now) ++ p.second.now) s2.0 s2.1)
