use Rattle.std.proofs.lemmas.Result.{err_from_is_err_and}
use Rattle.std.proofs.Common.{◌≡◌, ◌+◌, ◌-◌, ◌*◌, ◌∙◌, ℕ, List, [], ◌∷◌, ◌++◌, length, slice_index, append_assoc, append-nil, arith, ap, refl, rules, subst, sym, vec_len}
use Rattle.gathered_ways.specs.Sums.{ArePicked}
use Rattle.gathered_ways.proofs.WaySums.{picked_more}
use Rattle.gathered_ways.proofs.sums.add_edges.Goals as goal

pub loop-k-init : goal.loop-k-init
loop-k-init c = ([], c.reserve.ensures.items ∙ sym (append-nil c.args.stops.now.items), record { counted = refl; picked = λ k h. absurd (omega arith) })

pub loop-k-preserved : goal.loop-k-preserved
loop-k-preserved c =
    let S = c.args.stops.now.items in
    let i = c.loop-k.invariant in
    let x = c.cell.result in
    let known : vec_len c.args.stops.now ≡ length S = search rules in (
      i.0 ++ x ∷ [],
      c.in_ok-push.ensures.items ∙ ap (λ (xs : List ℕ). xs ++ x ∷ []) i.1 ∙ append_assoc S i.0 (x ∷ []),
      picked_more (length S) c.loop-k.k c.args.cells.now i.0 (i.0 ++ x ∷ []) x i.2 refl
          (subst (λ (w : ℕ). x ≡ slice_index c.args.cells.now (c.loop-k.k * w + (c.loop-k.k + 1))) (c.len-width.ensures ∙ known) c.cell.ensures.value),
    )

pub returns : goal.returns
returns c =
    let i = c.loop-k.invariant in
    let known : vec_len c.args.stops.now ≡ length c.args.stops.now.items = search rules in
    let wide = c.len-width.ensures ∙ known in
    let low = c.loop-k.auto.k-end in
    let end = c.loop-k-test.false in
    let all : c.loop-k.k ≡ length c.args.stops.now.items - 1 = omega arith in
    (i.0, i.1, subst (λ (n : ℕ). ArePicked (length c.args.stops.now.items) n c.args.cells.now i.0) all i.2)

pub returns-in_err-reserve : goal.returns-in_err-reserve
returns-in_err-reserve c = let p = err_from_is_err_and c.from_residual.result c.from_residual.ensures.1 in rw p.1 tt

pub returns-in_err-push : goal.returns-in_err-push
returns-in_err-push c = let p = err_from_is_err_and c.from_residual-in_err-push.result c.from_residual-in_err-push.ensures.1 in rw p.1 tt
