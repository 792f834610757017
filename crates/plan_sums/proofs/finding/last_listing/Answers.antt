use Rattle.std.proofs.Common.{ap, arith, map, sym, ◌∙◌, []}
use Rattle.std.proofs.lemmas.List.{get_or-map, length-map}
use Rattle.plan_sums.specs.Lines.{kind_of}
use Rattle.plan_sums.proofs.Searching.{searched}
use Rattle.plan_sums.proofs.finding.last_listing.Goals as goal

pub loop-k-preserved : goal.loop-k-preserved
loop-k-preserved c =
    c.behind-search.ensures (map (λ w. w.now) c.args.lines.now) (omega (arith, length-map c.args.lines.now (λ w. w.now), c.loop-k-test.true)) c.loop-k.invariant
    (c.in_ok-kind_of.ensures ∙ ap kind_of (sym (get_or-map (λ w. w.now) c.args.lines.now c.loop-k.k _ [] c.loop-k-test.true)))

pub returns : goal.returns
returns c = searched (map (λ w. w.now) c.args.lines.now) c.loop-k.k c.loop-k.search.found (omega (arith, length-map c.args.lines.now (λ w. w.now), c.loop-k-test.false)) c.loop-k.invariant.found
