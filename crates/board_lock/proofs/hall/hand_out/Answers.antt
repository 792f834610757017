use Rattle.std.proofs.Common.{◌≡◌, Bool, true, false, not, List, [], ◌∷◌, ◌++◌, if◌then◌else◌, map, map-id, ap, sym, ◌∙◌}
use Rattle.std.proofs.lemmas.List.{map_push}
use Rattle.std.proofs.lemmas.Iterator.Adapters.{YieldsList-from_vec}
use Rattle.std.proofs.lemmas.Iterator.Consumers.{YieldsList-end}
use Rattle.board_lock.specs.Readies.{watch_of}
use Rattle.board_lock.proofs.hall.hand_out.Goals as goal

pushed : {X : Type 0} (ok err : Bool) (xs ys zs : List X) → err ≡ false → ok ≡ not err → zs ≡ (if ok then ys else xs) → zs ≡ ys
pushed true err xs ys zs none other is = is
pushed false true xs ys zs none other is = absurd (cc (none))
pushed false false xs ys zs none other is = absurd (cc (other))

pub loop-ready-preserved : goal.loop-ready-preserved
loop-ready-preserved g c =
    pushed _ _ _ _ _ c.if-is_err.false c.is_err.ensures.negation c.push.ensures.items
    ∙ ((λ i. c.loop-ready.invariant i ++ c.open-seat.ensures i ∷ []) ∙ sym (map_push watch_of c.loop-ready.yielded c.in-Some.ready))

pub returns : goal.returns
returns g c =
    let gives = c.into_iter-ready-iterator.ensures.into_iter_gives in
    let all = YieldsList-end (YieldsList-from_vec c.args.readies.items gives.0 (cc)) c.loop-ready.yielded c.loop-ready.ready-iterator c.loop-ready.yielded_by c.next.result c.next.new.self c.in-None.is c.next.ensures.steps in
    c.loop-ready.invariant ∙ ap (map watch_of) (sym (map-id c.loop-ready.yielded) ∙ all.0)
