use Rattle.std.proofs.Common.{◌≡◌, All, sym, subst}
use Rattle.std.proofs.lemmas.List.Elements.{All-map}
use Rattle.dimension_core.specs.Setup.{setting}
use Rattle.desk_tests.proofs.workers.crowd.work_again.Goals as goal

pub returns-in-Some : goal.returns-in-Some
returns-in-Some g c =
    subst (All (λ d. setting d.setup.value ≡ g.N.Naming.opening.setting)) (sym c.in-Some.ensures)
    (All-map (λ d. setting d.setup.value ≡ g.N.Naming.opening.setting) (λ s. s.desk) c.in_ok-seat.shares.items c.in_ok-seat.ensures)
