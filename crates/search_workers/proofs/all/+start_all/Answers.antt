use Rattle.std.proofs.Common.{◌≡◌, All, ap, ◌∙◌, map, subst}
use Rattle.std.proofs.lemmas.List.{map-append}
use Rattle.std.proofs.lemmas.List.Elements.{All-push}
use Rattle.dimension_core.specs.Setup.{setting}
use Rattle.search_workers.specs.Works.{Worked}
use Rattle.search_workers.proofs.Alls.{all_more, all_last, all_front}
use Rattle.search_workers.proofs.all.+start_all.Goals as goal

pub start_one-requires-after_bounds : goal.start_one-requires-after_bounds
start_one-requires-after_bounds g t c κs within =
    all_last c.pop.new.self.items c.in-Some.desk (λ d. setting d.setup.value ≡ g.N.Naming.opening.setting) (subst (All (λ d. setting d.setup.value ≡ g.N.Naming.opening.setting)) c.in-Some.ensures.items c.requires.setups)

pub start_all-rest-requires-clause-setups : goal.start_all-rest-requires-clause-setups
start_all-rest-requires-clause-setups g t c κs within =
    all_front c.pop.new.self.items c.in-Some.desk (λ d. setting d.setup.value ≡ g.N.Naming.opening.setting) (subst (All (λ d. setting d.setup.value ≡ g.N.Naming.opening.setting)) c.in-Some.ensures.items c.requires.setups)

pub returns : goal.returns
returns g t c =
    let o = g.N.Naming.opening in
    let work = c.join-seat.result in
    let afters = ap (map (λ s. s.desk.seat)) c.in-Ok.ensures.items ∙ map-append (λ s. s.desk.seat) c.in_ok-shares.shares.items _ in
    let tallies = ap (map (λ s. s.tally)) c.in-Ok.ensures.items ∙ map-append (λ s. s.tally) c.in_ok-shares.shares.items _ in
    let befores = ap (map (λ d. d.seat)) c.in-Some.ensures.items ∙ map-append (λ d. d.seat) c.pop.new.self.items _ in
    let one = subst (λ e. Worked o e.order.session e.order.seed e.order.rounds e.seat work.seat work.tally) c.in_ok-child.ensures c.join-seat.ensures in
    let same = all_last c.pop.new.self.items c.in-Some.desk (λ d. setting d.setup.value ≡ o.setting) (subst (All (λ d. setting d.setup.value ≡ o.setting)) c.in-Some.ensures.items c.requires.setups) in (
      rw (c.in-Some-pop.ensures.items, c.in-Some-pop-2.ensures.items, befores, afters, tallies)
          (all_more o c.args.orders.rounds c.pop-2.new.self.items c.pop-3.new.self.items (map (λ d. d.seat) c.pop.new.self.items) (map (λ s. s.desk.seat) c.in_ok-shares.shares.items) (map (λ s. s.tally) c.in_ok-shares.shares.items)
          c.in-Some-pop.session c.in-Some-pop-2.seed c.in-Some.desk.seat work.seat work.tally c.in_ok-shares.ensures.0 one),
      rw (c.in-Ok.ensures.items) (All-push (λ s. setting s.desk.setup.value ≡ o.setting) c.in_ok-shares.shares.items _ c.in_ok-shares.ensures.1 same),
    )
