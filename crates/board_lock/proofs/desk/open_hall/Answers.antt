use Rattle.std.proofs.Common.{◌≡◌, map, map-id, ap, sym, ◌∙◌, [], ◌∷◌, ◌++◌}
use Rattle.std.proofs.lemmas.List.{map-append}
use Rattle.std.proofs.lemmas.List.Elements.{All-push}
use Rattle.std.proofs.lemmas.Iterator.Adapters.{YieldsList-from_vec}
use Rattle.std.proofs.lemmas.Iterator.Consumers.{YieldsList-end}
use Rattle.dimension_core.specs.Setup.{setting}
use Rattle.board_lock.proofs.desk.open_hall.Goals as goal

pub loop-seat-preserved : goal.loop-seat-preserved
loop-seat-preserved g c =
    let same : setting c.in-Ok.setup.value ≡ g.N.Naming.opening.setting = ap setting c.in-Ok.ensures ∙ c.loop-seat.invariant.setup in
    record {
      seats = ap (map (λ d. d.seat)) c.in-Ok-push.ensures.items ∙ (map-append (λ d. d.seat) _ _ ∙ ap (λ xs. xs ++ c.in-Some.seat ∷ []) c.loop-seat.invariant.seats);
      setups = rw (c.in-Ok-push.ensures.items) (All-push (λ d. setting d.setup.value ≡ g.N.Naming.opening.setting) c.loop-seat.desks.items _ c.loop-seat.invariant.setups same);
      setup = c.loop-seat.invariant.setup;
    }

pub returns : goal.returns
returns g c =
    let gives = c.into_iter-seat-iterator.ensures.into_iter_gives in
    let all = YieldsList-end (YieldsList-from_vec c.in_ok-seats.seats.items gives.0 (cc)) c.loop-seat.yielded c.loop-seat.seat-iterator c.loop-seat.yielded_by c.next.result c.next.new.self c.in-None.is c.next.ensures.steps in
    record {
      seats = c.loop-seat.invariant.seats ∙ (sym (map-id c.loop-seat.yielded) ∙ (all.0 ∙ c.in_ok-seats.ensures));
      setups = c.loop-seat.invariant.setups;
    }
