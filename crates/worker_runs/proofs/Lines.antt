-- One more line of a worker.
use Rattle.std.proofs.Common.{◌≡◌, ◌∙◌, ℕ, ◌+◌, List, [], ◌∷◌, ◌++◌, length, take, get_or, ◌<◌, sym, ap, append_assoc, append-nil, arith}
use Rattle.std.proofs.lemmas.List.{length-take-le, take_more}
use Rattle.search_workers.specs.declared.tally.Tally.{Tally}
use Rattle.worker_runs.specs.Tallies.{tally_lines, tally_text}

pub lines_more : (worker : ℕ) (tallies : List Tally) (tally : Tally) → tally_lines worker (tallies ++ tally ∷ []) ≡ tally_lines worker tallies ++ tally_text (worker + length tallies) tally
lines_more worker [] tally =
    let e : worker ≡ worker + 0 = omega arith in
    append-nil (tally_text worker tally) ∙ ap (λ (k : ℕ). tally_text k tally) e
lines_more worker (t ∷ tallies) tally =
    let e : worker + 1 + length tallies ≡ worker + length (t ∷ tallies) = omega arith in
    ap (λ (xs : List ℕ). tally_text worker t ++ xs) (lines_more (worker + 1) tallies tally ∙ ap (λ (k : ℕ). tally_lines (worker + 1) tallies ++ tally_text k tally) e)
    ∙ sym (append_assoc (tally_text worker t) (tally_lines (worker + 1) tallies) (tally_text (worker + length (t ∷ tallies)) tally))

pub lines_next : (k : ℕ) (tallies : List Tally) (d : Tally) → k < length tallies → tally_lines 1 (take (k + 1) tallies) ≡ tally_lines 1 (take k tallies) ++ tally_text (k + 1) (get_or tallies k d)
lines_next k tallies d h =
    let long : length (take k tallies) ≡ k = length-take-le k tallies (omega (arith, h)) in
    let e : 1 + length (take k tallies) ≡ k + 1 = omega (arith, long) in
    ap (tally_lines 1) (take_more tallies k d h) ∙ (lines_more 1 (take k tallies) (get_or tallies k d) ∙ ap (λ (n : ℕ). tally_lines 1 (take k tallies) ++ tally_text n (get_or tallies k d)) e)
