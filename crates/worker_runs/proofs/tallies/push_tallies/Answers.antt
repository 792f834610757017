use Rattle.std.proofs.Common.{rules, ◌≡◌, ◌∙◌, ◌<◌, ◌+◌, ℕ, List, ◌++◌, length, take, get_or, ap, sym, append_assoc, string_bytes}
use Rattle.search_workers.specs.declared.tally.Tally.{Tally}
use Rattle.worker_runs.specs.Tallies.{tally_lines, tally_text}
use Rattle.worker_runs.proofs.Lines.{lines_next}
use Rattle.worker_runs.proofs.tallies.push_tallies.Goals as goal

pub loop-k-preserved : goal.loop-k-preserved
loop-k-preserved c =
    let k = c.loop-k.k in
    let t : Tally = c.index-tallies-k.result in
    let ts : List Tally = c.args.tallies.now in
    let below : k < length ts = search rules in
    let at : get_or ts k t ≡ t = search rules in
    c.in_ok-push_tally.ensures
    ∙ (ap (λ (xs : List ℕ). xs ++ tally_text (k + 1) t) c.loop-k.invariant
    ∙ (append_assoc (string_bytes c.args.text.now) (tally_lines 1 (take k ts)) (tally_text (k + 1) t)
    ∙ ap (λ (xs : List ℕ). string_bytes c.args.text.now ++ xs) (sym (lines_next k ts t below ∙ ap (λ (x : Tally). tally_lines 1 (take k ts) ++ tally_text (k + 1) x) at))))
