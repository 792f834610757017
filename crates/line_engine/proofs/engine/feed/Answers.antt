use Rattle.std.proofs.Common.{◌≡◌, ◌∙◌, [], ◌∷◌, ◌++◌, ap, sym, append_assoc, map, List, ℕ, Bor}
use Rattle.std.proofs.lemmas.List.{append-nil}
use Rattle.std.proofs.lemmas.Result.{err_from_is_err_and}
use Rattle.line_engine.specs.Running.{HasNoEnd}
use Rattle.line_engine.proofs.Faulted.{no_result}
use Rattle.line_engine.proofs.Runs.{nothing_yet, no_memory, no_memory_within, keep_broken, keep_done, feed_line, feed_broken_line, held_then, shorter, shorter_none, shorter_part}
use Rattle.line_engine.proofs.engine.feed.Goals as goal

pub lines-init : goal.lines-init
lines-init g c = ([], sym c.new-left.ensures, c.requires.ready, ([], sym (append-nil _), rw (append-nil c.args.partial.now.items) (nothing_yet g.F.Front.step _ _ _ _ _ c.requires.line)))

pub returns-in_err-words-clause-err : goal.returns-in_err-words-clause-err
returns-in_err-words-clause-err g c =
    let p = err_from_is_err_and c.from_residual.result c.from_residual.ensures.1 in
    rw (p.1, p.2) ([], sym (append-nil _), no_memory_within g.F.Front.step g.F.Front.refuses _ c.args.partial.now.items c.args.piece.now _)

pub returns-in_err-line-clause-err : goal.returns-in_err-line-clause-err
returns-in_err-line-clause-err g c =
    let i = c.lines.invariant in
    let p = err_from_is_err_and c.from_residual-in_err-line.result c.from_residual-in_err-line.ensures.1 in
    rw (p.1, p.2) (
      i.3.0 ++ [],
      i.3.1 ∙ ap (λ (l : List ℕ). c.args.outbox.now.held.items ++ l) (sym (append-nil i.3.0)),
      feed_broken_line g.F.Front.step g.F.Front.refuses _ _ _ _ i.3.0 [] c.args.partial.now.items c.args.piece.now i.0 [] c.lines.left c.lines.partial.items _ _ _ _ _ _ i.1 i.3.2
          (no_memory g.F.Front.step g.F.Front.refuses _ (c.lines.partial.items ++ []) _),
    )

pub returns-in_err-keep-clause-err : goal.returns-in_err-keep-clause-err
returns-in_err-keep-clause-err g c =
    let i = c.lines.invariant in
    let line = c.rest.result.now in
    let p = err_from_is_err_and c.from_residual-in_err-keep.result c.from_residual-in_err-keep.ensures.1 in
    let same : line ≡ c.lines.left = c.rest.ensures ∙ (rw c.in_default.is at c.in_ok-line.ensures.line).1 in
    let plain : HasNoEnd line = rw same (rw c.in_default.is at c.in_ok-line.ensures.line).0 in
    let whole : c.lines.left ≡ (line ++ []) ++ [] = sym same ∙ sym (append-nil line) ∙ sym (append-nil (line ++ [])) in
    let e : c.args.piece.now ≡ i.0 ++ ((line ++ []) ++ []) = i.1 ∙ ap (λ (l : List ℕ). i.0 ++ l) whole in
    rw (p.1, p.2) (
      i.3.0 ++ [],
      i.3.1 ∙ ap (λ (l : List ℕ). c.args.outbox.now.held.items ++ l) (sym (append-nil i.3.0)),
      feed_broken_line g.F.Front.step g.F.Front.refuses _ _ _ _ i.3.0 [] c.args.partial.now.items c.args.piece.now i.0 (line ++ []) [] c.lines.partial.items _ _ _ _ _ _ e i.3.2
          (keep_broken g.F.Front.step g.F.Front.refuses _ _ c.lines.partial.items line [] _ i.3.2.cut.partial plain c.in_err-keep.ensures.err),
    )

pub returns-in_err-take_line-clause-err : goal.returns-in_err-take_line-clause-err
returns-in_err-take_line-clause-err g c =
    let i = c.lines.invariant in
    let left = c.lines.left in
    let line = c.in-Some.line.now in
    let after = c.keep_next.new.self in
    let t = c.in_err-take_line.ensures.err in
    let p = err_from_is_err_and c.from_residual-in_err-take_line.result c.from_residual-in_err-take_line.ensures.1 in
    let cut : left ≡ line ++ 10 ∷ after = (rw c.in-Some.is at c.in_ok-line.ensures.line).1 in
    let e : c.args.piece.now ≡ i.0 ++ ((line ++ 10 ∷ []) ++ after) = i.1 ∙ ap (λ (l : List ℕ). i.0 ++ l) (cut ∙ sym (append_assoc line (10 ∷ []) after)) in
    rw (p.1, p.2) (i.3.0 ++ t.0, held_then _ _ _ i.3.0 t.0 i.3.1 t.1, feed_broken_line g.F.Front.step g.F.Front.refuses _ _ _ _ i.3.0 t.0 c.args.partial.now.items c.args.piece.now i.0 (line ++ 10 ∷ []) after c.lines.partial.items _ _ _ _ _ _ e i.3.2 t.2)

pub returns-in_default-clause-ok : goal.returns-in_default-clause-ok
returns-in_default-clause-ok g c =
    let i = c.lines.invariant in
    let line = c.rest.result.now in
    let same : line ≡ c.lines.left = c.rest.ensures ∙ (rw c.in_default.is at c.in_ok-line.ensures.line).1 in
    let none : c.as_slice.result.now ≡ [] = c.as_slice.ensures in
    let e : c.args.piece.now ≡ (i.0 ++ line) ++ c.as_slice.result.now = i.1 ∙ ap (λ (l : List ℕ). i.0 ++ l) (sym same) ∙ sym (append-nil (i.0 ++ line)) ∙ ap (λ (l : List ℕ). (i.0 ++ line) ++ l) (sym none) in (
      i.0 ++ line,
      e,
      (
        i.3.0 ++ [],
        i.3.1 ∙ ap (λ (l : List ℕ). c.args.outbox.now.held.items ++ l) (sym (append-nil i.3.0)),
        feed_line g.F.Front.step _ _ _ i.3.0 [] c.args.partial.now.items i.0 line c.lines.partial.items _ _ _ _ _ _ _ _ _ _ i.3.2 (keep_done g.F.Front.step _ c.lines.partial.items line _ _ _ _ c.in_ok-keep.ensures.ok),
      ),
    )

pub returns-then-is_full-clause-ok : goal.returns-then-is_full-clause-ok
returns-then-is_full-clause-ok g c =
    let i = c.lines.invariant in
    let left = c.lines.left in
    let line = c.in-Some.line.now in
    let after = c.rest-then-is_full.result.now in
    let t = c.in_ok-take_line.ensures.ok in
    let cut : left ≡ line ++ 10 ∷ after = rw c.rest-then-is_full.ensures (rw c.in-Some.is at c.in_ok-line.ensures.line).1 in
    let e : c.args.piece.now ≡ i.0 ++ ((line ++ 10 ∷ []) ++ after) = i.1 ∙ ap (λ (l : List ℕ). i.0 ++ l) (cut ∙ sym (append_assoc line (10 ∷ []) after)) in (
      i.0 ++ (line ++ 10 ∷ []),
      e ∙ sym (append_assoc i.0 (line ++ 10 ∷ []) after),
      (
        i.3.0 ++ t.0,
        held_then _ _ _ i.3.0 t.0 i.3.1 t.1,
        feed_line g.F.Front.step _ _ _ i.3.0 t.0 c.args.partial.now.items i.0 (line ++ 10 ∷ []) c.lines.partial.items _ _ _ _ _ _ _ _ _ _ i.3.2 t.2,
      ),
    )

pub lines-preserved : goal.lines-preserved
lines-preserved g c =
    let i = c.lines.invariant in
    let left = c.lines.left in
    let line = c.in-Some.line.now in
    let after = c.keep_next.new.self in
    let t = c.in_ok-take_line.ensures.ok in
    let cut : left ≡ line ++ 10 ∷ after = (rw c.in-Some.is at c.in_ok-line.ensures.line).1 in
    let e : c.args.piece.now ≡ i.0 ++ ((line ++ 10 ∷ []) ++ after) = i.1 ∙ ap (λ (l : List ℕ). i.0 ++ l) (cut ∙ sym (append_assoc line (10 ∷ []) after)) in (
      i.0 ++ (line ++ 10 ∷ []),
      e ∙ sym (append_assoc i.0 (line ++ 10 ∷ []) after),
      c.take_line.ensures.ready,
      (
        i.3.0 ++ t.0,
        held_then _ _ _ i.3.0 t.0 i.3.1 t.1,
        feed_line g.F.Front.step _ _ _ i.3.0 t.0 c.args.partial.now.items i.0 (line ++ 10 ∷ []) c.lines.partial.items _ _ _ _ _ _ _ _ _ _ i.3.2 t.2,
      ),
    )

pub keep-requires : goal.keep-requires
keep-requires g c =
    let same = c.rest.ensures ∙ (rw c.in_default.is at c.in_ok-line.ensures.line).1 in
    let plain : HasNoEnd c.rest.result.now = rw same (rw c.in_default.is at c.in_ok-line.ensures.line).0 in
    record { line = c.lines.invariant.3.2.cut.partial; plain = plain }

pub take_line-requires : goal.take_line-requires
take_line-requires g c =
    let i = c.lines.invariant in
    let words = rw c.in-Some.is at c.in_ok-line.ensures.words in
    record { line = i.3.2.cut.partial; plain = (rw c.in-Some.is at c.in_ok-line.ensures.line).0; ready = i.2; words = ap (map (λ (w : Bor (List ℕ)). w.now)) c.as_slice-in-lines.ensures.value ∙ words }

pub lines-smaller : goal.lines-smaller
lines-smaller g c =
    let cut = (rw c.in-Some.is at c.in_ok-line.ensures.line).1 in
    shorter _ c.in-Some.line.now c.keep_next.new.self cut

pub returns-then-is_full-clause-shorter : goal.returns-then-is_full-clause-shorter
returns-then-is_full-clause-shorter g c =
    let i = c.lines.invariant in
    let cut : c.lines.left ≡ c.in-Some.line.now ++ 10 ∷ c.rest-then-is_full.result.now = rw c.rest-then-is_full.ensures (rw c.in-Some.is at c.in_ok-line.ensures.line).1 in
    λ _. shorter_part _ i.0 _ _ i.1 (shorter _ c.in-Some.line.now c.rest-then-is_full.result.now cut)

pub returns-in_err-words-clause-ok : goal.returns-in_err-words-clause-ok
returns-in_err-words-clause-ok g c = no_result _ _ c.from_residual.ensures.0

pub returns-in_err-words-clause-shorter : goal.returns-in_err-words-clause-shorter
returns-in_err-words-clause-shorter g c = λ _. no_result _ _ c.from_residual.ensures.0

pub returns-in_err-line-clause-ok : goal.returns-in_err-line-clause-ok
returns-in_err-line-clause-ok g c = no_result _ _ c.from_residual-in_err-line.ensures.0

pub returns-in_err-line-clause-shorter : goal.returns-in_err-line-clause-shorter
returns-in_err-line-clause-shorter g c = λ _. no_result _ _ c.from_residual-in_err-line.ensures.0

pub returns-in_err-keep-clause-ok : goal.returns-in_err-keep-clause-ok
returns-in_err-keep-clause-ok g c = no_result _ _ c.from_residual-in_err-keep.ensures.0

pub returns-in_err-keep-clause-shorter : goal.returns-in_err-keep-clause-shorter
returns-in_err-keep-clause-shorter g c = λ _. no_result _ _ c.from_residual-in_err-keep.ensures.0

pub returns-in_err-take_line-clause-ok : goal.returns-in_err-take_line-clause-ok
returns-in_err-take_line-clause-ok g c = no_result _ _ c.from_residual-in_err-take_line.ensures.0

pub returns-in_err-take_line-clause-shorter : goal.returns-in_err-take_line-clause-shorter
returns-in_err-take_line-clause-shorter g c = λ _. no_result _ _ c.from_residual-in_err-take_line.ensures.0

pub returns-in_default-clause-shorter : goal.returns-in_default-clause-shorter
returns-in_default-clause-shorter g c = shorter_none _ _ c.as_slice.ensures
