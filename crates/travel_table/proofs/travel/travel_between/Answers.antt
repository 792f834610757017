use Rattle.std.proofs.Common.{ℕ, ◌∙◌, ap, subst}
use Rattle.travel_table.specs.Root.{IsRoot}
use Rattle.travel_table.specs.Travel.{square_between, square_apart, point_of}
use Rattle.travel_table.specs.declared.travel.Point.{Point}
use Rattle.travel_table.proofs.Squares.{root_is_only}
use Rattle.travel_table.proofs.travel.travel_between.Goals as goal

pub returns : goal.returns
returns c =
    let a = c.args.a.now in
    let b = c.args.b.now in
    let there = ap (λ (p : Point). square_apart p c.point_of-2.result) c.point_of.ensures.value ∙ ap (λ (p : Point). square_apart (point_of a) p) c.point_of-2.ensures.value in
    let root = subst (λ (n : ℕ). IsRoot n c.way_between.result) there c.way_between.ensures.root in
    record { value = root_is_only (square_between a b) c.way_between.result root; root = root; small = c.way_between.ensures.small }
