use Rattle.std.proofs.Common.{◌++◌, ◌<◌, arith, length, refl, sym, subst, ℕ}
use Rattle.std.proofs.lemmas.Bool.{false≢true}
use Rattle.route_parts.specs.Parts.{way_of, middle_of, begun_of}
use Rattle.route_parts.proofs.Carried.{in_parts, all_in_parts, all_left, all_right}
use Rattle.route_parts.proofs.Keeping.{last_known}
use Rattle.route_parts.proofs.Meeting.{no_way, no_behind, no_arrival, meeting, next_known, span_as}
use Rattle.route_parts.proofs.fits.meets.Goals as goal

pub returns-in_default : goal.returns-in_default
returns-in_default g c =
    let p = c.args.parts.now in
    no_way c.requires.laws _ _ _ p.front.now (way_of p.turned p.first.now ++ (p.second.now ++ (p.third.now ++ p.back.now))) _ refl c.requires.some (span_as _ _ _ c.in_default.ensures c.requires.ends.ahead)

pub returns-in_default-at : goal.returns-in_default-at
returns-in_default-at g c = let p = c.args.parts.now in (
  λ never. absurd (false≢true never),
  λ inside. absurd (no_behind c.requires.laws _ _ _ _ p.back.now _ (in_parts p) c.requires.some (span_as _ _ _ c.in_default-at.ensures c.requires.ends.behind) inside),
)

pub carry_middle-requires-clause-small : goal.carry_middle-requires-clause-small
carry_middle-requires-clause-small g c =
    let p = c.args.parts.now in
    let some = c.nodes-nodes.ensures.low in
    let nodes = c.nodes-nodes.ensures.value in
    let last = last_known (λ n. n < length c.args.lane.now.dimension.now.ranges) 0 p.front.now (omega arith) (all_left c.requires.laws (λ n. n < length c.args.lane.now.dimension.now.ranges) p.front.now (way_of p.turned p.first.now ++ (p.second.now ++ (p.third.now ++ p.back.now))) c.requires.known) in
    c.spans_are_small.ensures _ _ _ _ (span_as _ _ _ c.in-Some.ensures c.requires.ends.ahead) last

pub carry_middle-requires-clause-from : goal.carry_middle-requires-clause-from
carry_middle-requires-clause-from g c =
    let p = c.args.parts.now in
    let some = c.nodes-nodes.ensures.low in
    let nodes = c.nodes-nodes.ensures.value in
    let last = last_known (λ n. n < length c.args.lane.now.dimension.now.ranges) 0 p.front.now (omega arith) (all_left c.requires.laws (λ n. n < length c.args.lane.now.dimension.now.ranges) p.front.now (way_of p.turned p.first.now ++ (p.second.now ++ (p.third.now ++ p.back.now))) c.requires.known) in
    subst (λ (n : ℕ). n < length c.args.lane.now.dimension.now.ranges) (sym c.last_stop-from.ensures) last

pub carry_middle-requires-clause-known : goal.carry_middle-requires-clause-known
carry_middle-requires-clause-known g c =
    let p = c.args.parts.now in
    all_right c.requires.laws (λ n. n < length c.args.lane.now.dimension.now.ranges) p.front.now (middle_of p) (all_left c.requires.laws (λ n. n < length c.args.lane.now.dimension.now.ranges) (begun_of p) p.back.now (all_in_parts (λ n. n < length c.args.lane.now.dimension.now.ranges) p c.requires.known))

pub returns-in_default-carry_middle : goal.returns-in_default-carry_middle
returns-in_default-carry_middle g c =
    let p = c.args.parts.now in
    no_way c.requires.laws _ _ _ (begun_of p) p.back.now _ (in_parts p) c.requires.some c.in_default-carry_middle.ensures.span

pub step_to-requires-clause-next : goal.step_to-requires-clause-next
step_to-requires-clause-next g c =
    let p = c.args.parts.now in
    let nodes = c.nodes-nodes.ensures.low in
    let is = c.nodes-nodes.ensures.value in
    let last = all_right c.requires.laws (λ n. n < length c.args.lane.now.dimension.now.ranges) (begun_of p) p.back.now (all_in_parts (λ n. n < length c.args.lane.now.dimension.now.ranges) p c.requires.known) in
    next_known (λ n. n < length c.args.lane.now.dimension.now.ranges) p.back.now c.next_stop-next.result c.next_stop-next.ensures.0 c.next_stop-next.ensures.1 (omega arith) (λ k h. last k 0 h)

pub returns-in_default-step_to : goal.returns-in_default-step_to
returns-in_default-step_to g c =
    let p = c.args.parts.now in
    let s1 = c.in-Some-carry_middle.ensures.span in (
      λ never. absurd (false≢true never),
      λ inside. absurd (no_arrival c.requires.laws _ _ _ _ p.back.now _ c.next_stop-next.result c.next_stop-next.ensures.0 (in_parts p) c.next_stop-next.ensures.1 c.requires.some
          (c.in_default-step_to.ensures _ s1.0 s1.1) inside),
    )

pub returns : goal.returns
returns g c =
    let p = c.args.parts.now in
    let s1 = c.in-Some-carry_middle.ensures.span in
    let met = meeting c.requires.laws _ _ _ _ p.back.now _ c.next_stop-next.result c.next_stop-next.ensures.0 _ _ (in_parts p) c.next_stop-next.ensures.1 c.requires.some
    (c.in-Some-step_to.ensures _ s1.0 s1.1) (span_as _ _ _ c.in-Some-at.ensures c.requires.ends.behind) in
    (λ is. met.0 (c.overlap.ensures.0 is), λ inside. c.overlap.ensures.1 (met.1 inside))
